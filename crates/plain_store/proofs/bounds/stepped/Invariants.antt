use Rattle.std.proofs.Common.{◌≡◌, ◌+◌, ◌&&◌, drop, count_by, Some}
use Rattle.std.specs.Option.{option_map}
use Rattle.map_model.specs.Slices.{is_between}
use Rattle.state_model.specs.Bounds.{is_passed}
use Rattle.plain_store.proofs.bounds.stepped.Given as goal

-- those so far and those among what is left
abbrev pub invariant-loop-entry : goal.invariant-loop-entry
invariant-loop-entry l = l.count + count_by (λ e. is_between l.lo (Some l.hi) e.key && is_passed (option_map (λ pair. pair.now) l.answer) e.key) (drop l.entry-index l.entries) ≡ count_by (λ e. is_between l.lo (Some l.hi) e.key && is_passed (option_map (λ pair. pair.now) l.answer) e.key) l.entries
