use Rattle.std.proofs.Common.{◌∙◌, ap, length}
use Rattle.fst_map.proofs.Asked.{as_many}
use Rattle.fst_map.proofs.map.FstMap.len.Goals as goal
use Rattle.map_file_model.specs.Maps.{Map}

pub returns : goal.returns
returns g c =
    let i = c.self.inside in
    c.leaves.ensures ∙ as_many i.bytes.now i.parts i.trie c.self.invariant ∙ ap (λ (m : Map). length m) c.self.view_is
