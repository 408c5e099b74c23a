use Rattle.std.proofs.Common.{◌≡◌, ◌++◌, drop}
use Rattle.plain_store.proofs.lists.push_entries.Given as goal

-- what is copied and what is left
abbrev pub invariant-loop-entry : goal.invariant-loop-entry
invariant-loop-entry l = l.list.items ++ drop l.entry-index l.entries ≡ l.initial.list.items ++ l.entries
