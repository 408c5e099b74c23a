use Rattle.std.proofs.Common.{◌≡◌, ◌++◌, drop}
use Rattle.entry_model.specs.Newest.{with_entry}
use Rattle.plain_store.proofs.source.with_entry.Given as goal

-- the new one belongs after the entries so far
abbrev pub invariant-loop-i : goal.invariant-loop-i
invariant-loop-i l = l.list.items ++ with_entry (drop l.i l.entries) l.new ≡ with_entry l.entries l.new
