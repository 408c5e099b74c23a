use Rattle.std.proofs.Common.{◌≡◌, not, subst, sym, ap, ◌∙◌, rules}
use Rattle.std.proofs.lemmas.Fn.{filter_same}
use Rattle.map_model.specs.SortedMap.{Bytes, Map, Rises}
use Rattle.range_model.specs.Clearing.{clear, lies_within}
use Rattle.range_model.proofs.Clearing.{clear_rises}
use Rattle.plain_map.proofs.map.PlainMap.clear.Goals as goal

cleared : (c : goal.After-retain) → c.retain.new.self.items ≡ clear c.args.self.now c.args.lo.now c.args.hi.now
cleared c =
    filter_same _ (λ (pair : Bytes × Bytes). not (lies_within c.args.lo.now c.args.hi.now pair.0)) _ (λ x b f' k. search rules) _ _ c.retain.ensures.filtered
    ∙ ap (λ (m : Map). clear m c.args.lo.now c.args.hi.now) c.self.view_is

pub returns : goal.returns
returns c = cleared c

pub invariant_of-self : goal.invariant_of-self
invariant_of-self c = subst Rises (sym (cleared c)) (clear_rises c.args.self.now c.args.lo.now c.args.hi.now (subst Rises c.self.view_is c.self.invariant))
