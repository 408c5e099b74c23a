use Rattle.std.proofs.Common.{◌≡◌, ◌≤◌, ◌+◌, length}
use Rattle.key_base.specs.Limits.{max_key_bytes}
use Rattle.block_format.specs.Walking.{StandsAfter, walked}
use Rattle.store_check.specs.Values.{values_in}
use Rattle.store_check.proofs.values.count_values.Given as goal

-- the values that are counted and those of the entries to come are all
abbrev pub invariant-loop : goal.invariant-loop
invariant-loop l = record {
  room : max_key_bytes ≤ length l.buffer;
  stands : StandsAfter l.on l.buffer l.bytes;
  many : l.on.left + l.counter ≡ l.fn.walk.left;
  few : l.values ≤ l.counter;
  all : l.values + values_in (walked l.on l.buffer l.bytes) ≡ values_in (walked l.fn.walk l.initial.buffer l.bytes);
}
