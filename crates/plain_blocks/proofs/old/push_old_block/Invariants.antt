use Rattle.std.proofs.Common.{◌≡◌, ◌++◌, drop}
use Rattle.std.specs.Prelude.{flat_map}
use Rattle.entry_model.specs.Entries.{body}
use Rattle.plain_blocks.proofs.old.push_old_block.Given as goal

-- what is written and the entries that are left make all entries
abbrev pub invariant-loop-entry : goal.invariant-loop-entry
invariant-loop-entry l = l.out.items ++ flat_map body (drop l.entry-index l.block) ≡ l.initial.out.items ++ flat_map body l.block
