use Rattle.std.proofs.Common.{◌≡◌, ◌≤◌, ◌<◌, ◌+◌, ◌-◌, ◌*◌, ◌/◌, true, false}
use Rattle.key_base.specs.ByteOrder.{is_before}
use Rattle.block_model.specs.BlockReading.{count_in}
use Rattle.block_model.specs.FormatLaws.{listed_key}
use Rattle.block_format.proofs.finding.group_of.Given as goal

-- the key is in one of the groups from `low` up to `high`
abbrev pub invariant-loop-high : goal.invariant-loop-high
invariant-loop-high l = record {
  rising : l.low < l.high;
  most : l.high ≤ (l.head.count + 15) / 16;
  from : 0 < l.low → is_before l.key (listed_key l.bytes l.low) ≡ false;
  to : 16 * l.high < count_in l.bytes → is_before l.key (listed_key l.bytes l.high) ≡ true;
}

abbrev pub decreases-loop-high : goal.decreases-loop-high
decreases-loop-high l = l.high - l.low
