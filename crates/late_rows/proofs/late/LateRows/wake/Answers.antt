use Rattle.std.proofs.Common.{◌∙◌, List, map, slice_set, sym, ap, subst}
use Rattle.std.specs.Prelude.{Option, None}
use Rattle.std.specs.Option.{option_map}
use Rattle.std.proofs.lemmas.List.{length-set}
use Rattle.map_model.specs.SortedMap.{Bytes}
use Rattle.late_rows.proofs.Awake.{sleeps_yet}
use Rattle.late_rows.proofs.Sooner.{seen_set}
use Rattle.late_rows.specs.Late.{IsNext, LateMerge, waking_at}
use Rattle.late_rows.proofs.late.LateRows.wake.Goals as goal

pub returns-clause-asleep : goal.returns-clause-asleep
returns-clause-asleep c =
    seen_set (λ key. key.items) c.self.inside.asleep.items c.args.sleeper
    ∙ ap (λ (l : LateMerge). slice_set l.asleep c.args.sleeper None) c.self.view_is

pub invariant_of-self : goal.invariant_of-self
invariant_of-self c = (
  length-set c.self.inside.asleep.items c.args.sleeper None ∙ c.self.invariant.0,
  λ at key is. c.self.invariant.1 at key (sleeps_yet _ c.args.sleeper at key (ap (λ (os : List (Option Bytes)). waking_at os at) (sym (seen_set (λ k. k.items) c.self.inside.asleep.items c.args.sleeper)) ∙ is)),
  subst (λ items. IsNext (map (λ o. option_map (λ k. k.items) o) items) c.next_of-self-inside.result) c.deref.ensures.value c.next_of-self-inside.ensures.next,
  c.self.invariant.3,
)
