use Rattle.std.proofs.Common.{◌≡◌, ◌≤◌, ◌+◌, ◌-◌, ◌++◌, ◌∷◌, [], length, drop}
use Rattle.block_model.specs.IndexReading.{ranges_fault, ranges_in}
use Rattle.key_base.specs.ByteOrder.{IsBefore}
use Rattle.range_model.specs.Ranges.{AreRanges, DeletedRange, HasBounds, IsDeletedRange}
use Rattle.table_file.proofs.index_ranges.read_all.Given as goal

-- The ranges that are left break the rules that all break, after the end of those that were read; and there is room above that
-- end for one more.
abbrev pub invariant-loop-i : goal.invariant-loop-i
invariant-loop-i l = record {
  within : l.at ≤ length l.bytes;
  same : ranges_fault l.count l.place [] l.bytes ≡ ranges_fault (l.count - l.i) (l.place + l.at) l.before (drop l.at l.bytes);
  read : ranges_in l.count l.bytes ≡ l.ranges.ranges ++ ranges_in (l.count - l.i) (drop l.at l.bytes);
  room : (new : DeletedRange) → IsBefore l.before new.lo → IsDeletedRange new → HasBounds new → AreRanges (l.ranges.ranges ++ new ∷ []);
}
