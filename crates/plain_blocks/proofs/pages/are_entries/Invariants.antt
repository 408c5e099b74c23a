use Rattle.std.proofs.Common.{take}
use Rattle.std.specs.List.{AllByRecursion}
use Rattle.entry_model.specs.Entries.{IsEntry}
use Rattle.plain_blocks.proofs.pages.are_entries.Given as goal

-- the entries so far are
abbrev pub invariant-loop-entry : goal.invariant-loop-entry
invariant-loop-entry l = AllByRecursion IsEntry (take l.entry-index l.entries)
