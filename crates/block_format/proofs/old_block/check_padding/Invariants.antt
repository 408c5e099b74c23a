use Rattle.std.proofs.Common.{◌≡◌, ◌≤◌, ◌+◌, ◌-◌, length, drop}
use Rattle.std.specs.List.{position_or_len}
use Rattle.std.specs.Prelude.{◌==◌, not}
use Rattle.block_format.proofs.old_block.check_padding.Given as goal

abbrev pub invariant-loop-place : goal.invariant-loop-place
invariant-loop-place l = record {
  from : l.used ≤ l.place;
  within : l.place ≤ length l.bytes;
  same : position_or_len (λ b. not (b == 0)) (drop l.used l.bytes) ≡ (l.place - l.used) + position_or_len (λ b. not (b == 0)) (drop l.place l.bytes);
}
