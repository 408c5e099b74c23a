use Rattle.std.proofs.Common.{subst, sym, set, ap, ◌∙◌}
use Rattle.std.specs.Prelude.{insert}
use Rattle.map_model.specs.SortedMap.{Bytes, Map, Rises}
use Rattle.map_model.proofs.Maps.{put_rises}
use Rattle.plain_map.proofs.map.PlainMap.put.Goals as goal

pub invariant_of-self : goal.invariant_of-self
invariant_of-self c =
    let rises = put_rises c.args.self.now c.args.key.now c.args.value.now (subst Rises c.self.view_is c.self.invariant) in
    subst Rises
    (c.in-Ok.ensures.found.1 c.args.value.now ∙ ap (λ (p : Bytes × Bytes). set c.args.self.now c.in-Ok.at p) (sym c.in_ok-pair.ensures)
    ∙ ap (λ (m : Map). set m c.in-Ok.at c.in_ok-pair.pair) (sym c.self.view_is))
    rises

pub invariant_of-self-in-Continue-branch-2 : goal.invariant_of-self-in-Continue-branch-2
invariant_of-self-in-Continue-branch-2 c =
    let rises = put_rises c.args.self.now c.args.key.now c.args.value.now (subst Rises c.self.view_is c.self.invariant) in
    subst Rises
    (c.in-Err.ensures.missing.1 c.args.value.now ∙ ap (λ (p : Bytes × Bytes). insert c.args.self.now c.in-Err.at p) (sym c.in_ok-pair.ensures)
    ∙ ap (λ (m : Map). insert m c.in-Err.at c.in_ok-pair.pair) (sym c.self.view_is) ∙ sym c.in_ok-insert-in-Err.ensures.items)
    rises
