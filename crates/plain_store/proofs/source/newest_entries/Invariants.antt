use Rattle.std.proofs.Common.{◌≡◌, fold, drop}
use Rattle.entry_model.specs.Newest.{with_entry, newest_entries}
use Rattle.plain_store.proofs.source.newest_entries.Given as goal

-- what is left goes into the entries so far
abbrev pub invariant-loop-entry : goal.invariant-loop-entry
invariant-loop-entry l = fold with_entry l.list.items (drop l.entry-index l.entries) ≡ newest_entries l.entries
