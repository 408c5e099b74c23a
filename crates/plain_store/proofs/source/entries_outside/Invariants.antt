use Rattle.std.proofs.Common.{◌≡◌, ◌++◌, drop}
use Rattle.range_model.specs.Sources.{entries_outside}
use Rattle.plain_store.proofs.source.entries_outside.Given as goal

-- those so far and those among what is left
abbrev pub invariant-loop-entry : goal.invariant-loop-entry
invariant-loop-entry l = l.list.items ++ entries_outside (drop l.entry-index l.entries) l.range ≡ entries_outside l.entries l.range
