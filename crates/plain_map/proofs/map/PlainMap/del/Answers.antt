use Rattle.std.proofs.Common.{◌≡◌, not, subst, sym, ap, ◌∙◌, rules}
use Rattle.std.specs.Prelude.{bytes_eq}
use Rattle.std.proofs.lemmas.Fn.{filter_same}
use Rattle.map_model.specs.SortedMap.{Bytes, Map, Rises, del}
use Rattle.map_model.proofs.Maps.{del_rises}
use Rattle.plain_map.proofs.Places.{del_filters}
use Rattle.plain_map.proofs.map.PlainMap.del.Goals as goal

deleted : (c : goal.After-retain) → c.retain.new.self.items ≡ del c.args.self.now c.args.key.now
deleted c =
    filter_same _ (λ (pair : Bytes × Bytes). not (bytes_eq pair.0 c.args.key.now)) _ (λ x b f' k. search rules) _ _ c.retain.ensures.filtered
    ∙ del_filters c.self.inside.pairs.items c.args.key.now ∙ ap (λ (m : Map). del m c.args.key.now) c.self.view_is

pub returns : goal.returns
returns c = deleted c

pub invariant_of-self : goal.invariant_of-self
invariant_of-self c = subst Rises (sym (deleted c)) (del_rises c.args.self.now c.args.key.now (subst Rises c.self.view_is c.self.invariant))
