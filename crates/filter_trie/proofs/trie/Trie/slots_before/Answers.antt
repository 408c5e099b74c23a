use Rattle.std.proofs.Common.{◌∙◌, ap, refl}
use Rattle.filter_trie.proofs.Numbers.{behind, dense_before, inside, sparse_before, sparse_behind, sparse_within}
use Rattle.trie_model.specs.Halves.{Half, begin_of, slot_at}
use Rattle.louds_dense.specs.Places.{node_slot}
use Rattle.filter_trie.specs.Parts.{AreParts}
use Rattle.filter_trie.proofs.trie.Trie.slots_before.Goals as goal

pub first_place-requires-clause-there : goal.first_place-requires-clause-there
first_place-requires-clause-there g c =
    let s : AreParts c.args.self.now c.self.inside.cutoff c.self.inside.height c.self.inside.dense c.self.inside.sparse c.self.inside.suffixes = rw c.self.view_is at c.self.invariant.0 in
    rw s.sparse_is (sparse_behind s c.args.node c.requires)

pub leaf_slot-requires : goal.leaf_slot-requires
leaf_slot-requires g c =
    let s : AreParts c.args.self.now c.self.inside.cutoff c.self.inside.height c.self.inside.dense c.self.inside.sparse c.self.inside.suffixes = rw c.self.view_is at c.self.invariant.0 in
    rw s.sparse_is (sparse_within s c.args.node c.first_place.result (behind s c.args.node c.if-has_node.ensures.has.1) c.requires (c.first_place.ensures ∙ ap (λ (h : Half). begin_of h c.args.node) s.sparse_is))

pub returns-then-has_node : goal.returns-then-has_node
returns-then-has_node g c =
    let s : AreParts c.args.self.now c.self.inside.cutoff c.self.inside.height c.self.inside.dense c.self.inside.sparse c.self.inside.suffixes = rw c.self.view_is at c.self.invariant.0 in
    c.node_slot.ensures ∙ ap (λ ns. node_slot ns c.args.node) s.dense_is ∙ dense_before s c.args.node (inside s c.args.node (c.if-has_node.ensures.has.0 refl))

pub returns-else-has_node : goal.returns-else-has_node
returns-else-has_node g c =
    let s : AreParts c.args.self.now c.self.inside.cutoff c.self.inside.height c.self.inside.dense c.self.inside.sparse c.self.inside.suffixes = rw c.self.view_is at c.self.invariant.0 in
    c.leaf_slot.ensures ∙ ap (slot_at c.self.inside.sparse) c.first_place.ensures ∙ ap (λ (h : Half). slot_at h (begin_of h c.args.node)) s.sparse_is ∙ sparse_before s c.args.node (behind s c.args.node c.if-has_node.ensures.has.1)
