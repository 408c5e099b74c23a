use Rattle.std.proofs.Common.{subst}
use Rattle.extent_model.specs.Extents.{AreLaid}
use Rattle.extent_map.specs.Taken.{Taken}
use Rattle.extent_map.proofs.Order.{laid}
use Rattle.extent_map.proofs.extents.Extents.as_slice.Goals as goal

pub returns-clause-laid : goal.returns-clause-laid
returns-clause-laid c = subst (λ (t : Taken). AreLaid t.pages t.extents) c.self.view_is (laid c.self.inside.pages c.self.inside.items.items c.self.invariant.1)
