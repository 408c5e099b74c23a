use Rattle.std.proofs.Common.{◌≡◌, ◌≤◌, ◌+◌, ◌++◌, length}
use Rattle.entry_model.specs.Entries.{keys_of}
use Rattle.key_base.specs.Limits.{max_key_bytes}
use Rattle.block_format.specs.Walking.{StandsAfter, walked}
use Rattle.store_check.proofs.blocks.add_keys.Given as goal

-- the keys that are added and those of the entries to come are all
abbrev pub invariant-loop : goal.invariant-loop
invariant-loop l = record {
  room : max_key_bytes ≤ length l.buffer;
  stands : StandsAfter l.on l.buffer l.bytes;
  many : l.on.left + l.counter ≡ l.fn.walk.left;
  all : l.keys ++ keys_of (walked l.on l.buffer l.bytes) ≡ l.initial.keys ++ keys_of (walked l.fn.walk l.initial.buffer l.bytes);
}
