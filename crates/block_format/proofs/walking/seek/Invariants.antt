use Rattle.std.proofs.Common.{◌≡◌, ◌+◌, length}
use Rattle.entry_model.specs.Newest.{entries_from}
use Rattle.block_format.specs.Walking.{StandsAfter, walked}
use Rattle.block_format.proofs.walking.seek.Given as goal

-- the entries from the bound on are those that the walk still comes by
abbrev pub invariant-loop : goal.invariant-loop
invariant-loop l = record {
  room : length l.buffer ≡ length l.initial.buffer;
  stands : StandsAfter l.on l.buffer l.bytes;
  many : l.on.left + l.counter ≡ l.fn.walk.left;
  same : entries_from (walked l.fn.walk l.initial.buffer l.bytes) l.low ≡ entries_from (walked l.on l.buffer l.bytes) l.low;
}
