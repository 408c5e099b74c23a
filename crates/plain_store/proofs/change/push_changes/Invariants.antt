use Rattle.std.proofs.Common.{◌≡◌, ◌++◌, drop}
use Rattle.plain_store.proofs.change.push_changes.Given as goal

-- what is copied and what is left
abbrev pub invariant-loop-change : goal.invariant-loop-change
invariant-loop-change l = l.list.items ++ drop l.change-index l.changes ≡ l.initial.list.items ++ l.changes
