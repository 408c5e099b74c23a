use Rattle.std.proofs.Common.{arith, Bool, not, sym, ap, ◌∙◌, subst}
use Rattle.std.proofs.lemmas.Bool.{le-ltb}
use Rattle.key_base.specs.ByteOrder.{Bytes, is_before}
use Rattle.range_model.specs.Ranges.{DeletedRange, covers}
use Rattle.range_tombs.specs.Lists.{RangeList}
use Rattle.range_tombs.proofs.Searches.{IsPlace, first_covers, past_all}
use Rattle.range_tombs.proofs.list.Ranges.covers.Goals as goal

pub returns-then-at-len : goal.returns-then-at-len
returns-then-at-len c =
    let key = c.args.key.now in
    let place = subst (λ (r : RangeList). IsPlace key r.ranges c.first_after-at.result) (sym c.self.view_is) c.first_after-at.ensures.place in
    let first = first_covers key c.self.inside.list.items c.first_after-at.result c.index.result.now c.self.invariant.0.are c.self.invariant.0.rise place (omega (arith, c.len.ensures, c.if-at-len.true)) in
    ap (λ (t : Bool). not t) c.comes_before.ensures
    ∙ ap (λ (lo : Bytes). not (is_before key lo)) (c.lo.ensures ∙ ap (λ (r : DeletedRange). r.lo) c.index.ensures)
    ∙ first ∙ ap (λ (r : RangeList). covers r.ranges key) c.self.view_is

pub returns-else-at-len : goal.returns-else-at-len
returns-else-at-len c =
    let key = c.args.key.now in
    let place = subst (λ (r : RangeList). IsPlace key r.ranges c.first_after-at.result) (sym c.self.view_is) c.first_after-at.ensures.place in
    let none = past_all key c.self.inside.list.items c.first_after-at.result (omega (arith, c.len.ensures, c.if-at-len.false)) place in
    le-ltb c.first_after-at.result c.len.result c.if-at-len.false ∙ sym none ∙ ap (λ (r : RangeList). covers r.ranges key) c.self.view_is
