use Rattle.extent_model.proofs.Free.{laid_of, are_laid}
use Rattle.state_model.proofs.Places.{placed_laid}
use Rattle.std.proofs.Common.{map, ◌++◌}
use Rattle.state_model.specs.Taken.{extent_of}
use Rattle.state_model.proofs.laws.places_are_free.Goals as goal

pub returns : goal.returns
returns c = λ filter_bytes settings pages extents level outputs made some laid e.
    are_laid pages (map extent_of made ++ extents) (placed_laid filter_bytes settings pages extents level outputs made some (laid_of pages extents laid) e).0
