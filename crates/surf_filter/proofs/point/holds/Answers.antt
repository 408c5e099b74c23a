use Rattle.std.proofs.Common.{◌∙◌}
use Rattle.surf_filter.proofs.Points.{point_is, point_none, slot_low}
use Rattle.surf_filter.proofs.point.holds.Goals as goal

pub returns-in-None : goal.returns-in-None
returns-in-None g c =
    let s = c.reached_leaf.ensures.stands in
    point_none c.args.trie.now.hash_bits c.args.trie.now.real_bits c.args.trie.now.leaves s.valid c.args.key.now (λ i. (c.type_inv.key i).fits) c.in-None.ensures.leaf

pub has_suffix-requires : goal.has_suffix-requires
has_suffix-requires g c =
    let s = c.reached_leaf.ensures.stands in
    slot_low c.args.trie.now.hash_bits c.args.trie.now.real_bits c.args.trie.now.leaves s.valid c.args.key.now (λ i. (c.type_inv.key i).fits) c.in-Some.leaf.slot c.in-Some.leaf.stub c.in-Some.ensures.leaf

pub returns-in-Some : goal.returns-in-Some
returns-in-Some g c =
    let s = c.reached_leaf.ensures.stands in
    c.has_suffix.ensures
    ∙ point_is c.args.trie.now.hash_bits c.args.trie.now.real_bits c.args.trie.now.leaves s.valid c.args.key.now (λ i. (c.type_inv.key i).fits) c.in-Some.leaf.slot c.in-Some.leaf.stub c.in-Some.ensures.leaf
