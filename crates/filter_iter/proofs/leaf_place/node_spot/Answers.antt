use Rattle.std.proofs.Common.{List, ◌+◌, ◌≤◌, ap, arith, length, ◌∙◌}
use Rattle.filter_iter.proofs.Siblings.{begin_within, in_sparse, node_begins, not_dense}
use Rattle.filter_model.specs.Nodes.{Node}
use Rattle.filter_trie.specs.Parts.{upper}
use Rattle.trie_model.specs.Halves.{Half, begin_of}
use Rattle.filter_iter.proofs.leaf_place.node_spot.Goals as goal

pub node_range-place-requires : goal.node_range-place-requires
node_range-place-requires g c =
    let from : length (upper c.args.trie.now.cutoff c.args.trie.now.leaves) ≤ c.args.node = omega (arith, not_dense c.args.node (length c.dense.result.now) c.if-has_node.ensures.has.1, ap (λ (ns : List Node). length ns) c.dense.ensures) in
    rw c.sparse.ensures (in_sparse c.args.trie.now c.args.node from c.requires.node)

pub first_below-below-requires : goal.first_below-below-requires
first_below-below-requires g c =
    let from : length (upper c.args.trie.now.cutoff c.args.trie.now.leaves) ≤ c.args.node = omega (arith, not_dense c.args.node (length c.dense.result.now) c.if-has_node.ensures.has.1, ap (λ (ns : List Node). length ns) c.dense.ensures) in
    begin_within c.args.trie.now c.args.node from c.requires.node c.node_range-place.result.0 (c.node_range-place.ensures.from ∙ ap (λ (h : Half). begin_of h c.args.node) c.sparse.ensures)

pub returns : goal.returns
returns g c =
    let from : length (upper c.args.trie.now.cutoff c.args.trie.now.leaves) ≤ c.args.node = omega (arith, not_dense c.args.node (length c.dense.result.now) c.if-has_node.ensures.has.1, ap (λ (ns : List Node). length ns) c.dense.ensures) in
    node_begins c.args.trie.now.hash_bits c.args.trie.now.real_bits c.args.trie.now c.args.node c.requires.stands.valid from c.requires.node (record { place = c.node_range-place.result.0; end = c.node_range-place.result.1; below = c.first_below-below.result })
    (c.node_range-place.ensures.from ∙ ap (λ (h : Half). begin_of h c.args.node) c.sparse.ensures)
    (c.node_range-place.ensures.to ∙ ap (λ (h : Half). begin_of h (c.args.node + 1)) c.sparse.ensures) c.first_below-below.ensures
