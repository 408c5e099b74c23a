use Rattle.std.proofs.Common.{◌≡◌, ◌++◌, drop}
use Rattle.std.specs.Prelude.{flat_map}
use Rattle.block_model.specs.Index.{range_bytes}
use Rattle.table_file.proofs.index_ranges.push_ranges.Given as goal

-- what is written and the ranges that are left make all ranges
abbrev pub invariant-loop-i : goal.invariant-loop-i
invariant-loop-i l = l.out.items ++ flat_map range_bytes (drop l.i l.ranges.ranges) ≡ l.initial.out.items ++ flat_map range_bytes l.ranges.ranges
