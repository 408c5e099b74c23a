use Rattle.std.proofs.Common.{◌≡◌, ◌++◌, map, take}
use Rattle.std.specs.List.Sorted.{IsPermutation}
use Rattle.manifest_model.specs.Rows.{extent_of}
use Rattle.store_core.proofs.flushing.add_rows.Given as goal

abbrev pub invariant-loop-row : goal.invariant-loop-row
invariant-loop-row l = (l.extents.pages ≡ l.fn.extents.pages) × IsPermutation (map extent_of (take l.row-index l.rows) ++ l.fn.extents.extents) l.extents.extents
