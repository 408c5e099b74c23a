use Rattle.std.proofs.Common.{◌∙◌, length, map, sym, ap, subst}
use Rattle.std.specs.Option.{option_map}
use Rattle.std.proofs.lemmas.List.{length-map}
use Rattle.merge_rows.specs.Merges.{Merge, numbered, walk_at}
use Rattle.late_rows.proofs.Sooner.{made_still}
use Rattle.late_rows.specs.Late.{AreStill, IsNext}
use Rattle.late_rows.proofs.late.LateRows.new.Goals as goal

pub invariant_of-result : goal.invariant_of-result
invariant_of-result g c =
    let which = c.args.which.items in
    let tables = c.args.tables.now.tables in
    let low = c.args.low.now in
    let asleep = map (λ o. option_map (λ key. key.items) o) c.args.waking.items in (
      c.requires.each ∙ sym (length-map which (λ number. record { number = number; walk = walk_at (numbered tables number) low })) ∙ sym (ap (λ (m : Merge). length m.walks) c.in_ok-rows.ensures),
      subst (λ (m : Merge). AreStill asleep m.walks) (sym c.in_ok-rows.ensures) (λ at key is. made_still which tables low at),
      subst (λ items. IsNext (map (λ o. option_map (λ key. key.items) o) items) c.next_of-next.result) c.deref.ensures.value c.next_of-next.ensures.next,
      ap (λ (m : Merge). m.drops) c.in_ok-rows.ensures,
    )
