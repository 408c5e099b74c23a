use Rattle.std.proofs.Common.{◌≡◌, ◌++◌, drop}
use Rattle.entry_list.proofs.list.copied.Given as goal

-- the copies so far and the entries that are left make all entries
abbrev pub invariant-loop-entry : goal.invariant-loop-entry
invariant-loop-entry l = l.list.items ++ drop l.entry-index l.entries ≡ l.entries
