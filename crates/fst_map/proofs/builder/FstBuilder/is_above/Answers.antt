use Rattle.std.proofs.Common.{◌≡◌, ◌-◌, ◌+◌, ◌∙◌, ap, sym, arith, length}
use Rattle.std.specs.Ordering.{is_lt}
use Rattle.fst_map.proofs.Pairs.{above_last}
use Rattle.fst_map.proofs.builder.FstBuilder.is_above.Goals as goal
use Rattle.fst_map.specs.Adding.{is_above}
use Rattle.map_model.specs.Slices.{is_before}
use Rattle.map_model.specs.SortedMap.{Bytes, Map}

pub returns-else-count-eq0 : goal.returns-else-count-eq0
returns-else-count-eq0 c =
    let key = c.args.key.now in
    let place : c.len-count.result - 1 + 1 ≡ length c.self.inside.keys = omega (arith, c.if-count-eq0.false, c.len-count.ensures) in
    c.is_lt.ensures ∙ ap is_lt c.compare.ensures ∙ ap (λ (k : Bytes). is_before k key) c.get.ensures
    ∙ sym (above_last c.self.inside.keys c.self.inside.values (c.len-count.result - 1) key c.self.invariant.as_many place)
    ∙ ap (λ (m : Map). is_above m key) c.self.view_is
