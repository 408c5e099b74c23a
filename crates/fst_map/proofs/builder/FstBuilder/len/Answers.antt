use Rattle.std.proofs.Common.{◌∙◌, ap, sym, length}
use Rattle.fst_map.proofs.Pairs.{zip_size}
use Rattle.fst_map.proofs.builder.FstBuilder.len.Goals as goal
use Rattle.map_model.specs.SortedMap.{Map}

pub returns : goal.returns
returns c =
    c.len.ensures ∙ sym (zip_size c.self.inside.keys c.self.inside.values c.self.invariant.as_many) ∙ ap (λ (m : Map). length m) c.self.view_is
