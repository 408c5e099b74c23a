use Rattle.std.proofs.Common.{◌≡◌, ◌+◌, drop, count_by, Some}
use Rattle.map_model.specs.Slices.{is_between}
use Rattle.plain_store.proofs.bounds.within.Given as goal

-- those so far and those among what is left
abbrev pub invariant-loop-entry : goal.invariant-loop-entry
invariant-loop-entry l = l.count + count_by (λ e. is_between l.lo (Some l.hi) e.key) (drop l.entry-index l.entries) ≡ count_by (λ e. is_between l.lo (Some l.hi) e.key) l.entries
