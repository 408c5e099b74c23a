use Rattle.std.proofs.Common.{◌≡◌, ◌≤◌, ◌-◌, length, drop}
use Rattle.entry_model.specs.Newest.{lookup}
use Rattle.block_model.specs.OldReading.{old_entries_in}
use Rattle.block_model.specs.Order.{is_any}
use Rattle.block_format.specs.Reading.{Stand}
use Rattle.block_format.proofs.old_block.find_in.Given as goal

abbrev pub invariant-loop-i : goal.invariant-loop-i
invariant-loop-i l = record {
  within : l.at ≤ length l.bytes;
  stand : Stand (l.count - l.i) is_any (drop l.at l.bytes);
  same : lookup (old_entries_in l.count l.bytes) l.key ≡ lookup (old_entries_in (l.count - l.i) (drop l.at l.bytes)) l.key;
}
