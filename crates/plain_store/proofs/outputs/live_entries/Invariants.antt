use Rattle.std.proofs.Common.{◌≡◌, ◌++◌, filter, drop}
use Rattle.state_model.specs.Merges.{has_value}
use Rattle.plain_store.proofs.outputs.live_entries.Given as goal

-- those so far and those among what is left
abbrev pub invariant-loop-entry : goal.invariant-loop-entry
invariant-loop-entry l = l.list.items ++ filter (λ e. has_value e.value) (drop l.entry-index l.entries) ≡ filter (λ e. has_value e.value) l.entries
