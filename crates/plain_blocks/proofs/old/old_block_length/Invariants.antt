use Rattle.std.proofs.Common.{◌≡◌, ◌+◌, length, drop}
use Rattle.std.specs.Prelude.{flat_map}
use Rattle.entry_model.specs.Entries.{body}
use Rattle.plain_blocks.proofs.old.old_block_length.Given as goal

-- what was added and the entries that are left make the length
abbrev pub invariant-loop-entry : goal.invariant-loop-entry
invariant-loop-entry l = l.bytes + length (flat_map body (drop l.entry-index l.block)) ≡ 8 + length (flat_map body l.block)
