use Rattle.std.proofs.Common.{◌≡◌, ◌≤◌, ◌+◌, ◌-◌, length, take, drop}
use Rattle.std.specs.Option.{option_map}
use Rattle.block_model.specs.OldReading.{old_entries_fault}
use Rattle.block_model.specs.Order.{is_any}
use Rattle.block_format.specs.Reading.{passes_after, sum_where}
use Rattle.block_format.proofs.old_block.old_entries.Given as goal

abbrev pub invariant-loop-i : goal.invariant-loop-i
invariant-loop-i l = record {
  within : l.at ≤ length l.bytes;
  same : old_entries_fault l.count 8 is_any l.bytes ≡ old_entries_fault (l.count - l.i) (8 + l.at) (passes_after (option_map (λ k. k.now) l.before)) (drop l.at l.bytes);
  sum : l.summer ≡ sum_where l.summed (take (8 + l.at) l.whole);
}
