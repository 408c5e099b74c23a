use Rattle.std.proofs.Common.{◌≡◌, ◌++◌, drop}
use Rattle.entry_model.specs.Entries.{keys_of}
use Rattle.plain_store.proofs.filters.keys_of.Given as goal

-- those so far and those that are left
abbrev pub invariant-loop-entry : goal.invariant-loop-entry
invariant-loop-entry l = l.keys ++ keys_of (drop l.entry-index l.entries) ≡ keys_of l.entries
