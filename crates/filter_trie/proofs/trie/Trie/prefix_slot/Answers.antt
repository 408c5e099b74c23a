use Rattle.std.proofs.Common.{◌∙◌, ap, refl}
use Rattle.filter_trie.proofs.Halves.{has_node}
use Rattle.filter_trie.proofs.Numbers.{behind, both, dense_end_is, inside, sparse_end_is}
use Rattle.trie_model.specs.Halves.{Half, end_slot}
use Rattle.louds_dense.specs.Places.{end_slot as dense_end}
use Rattle.filter_trie.specs.Parts.{AreParts, lower, upper}
use Rattle.filter_trie.proofs.trie.Trie.prefix_slot.Goals as goal

pub prefix_slot-requires-else-has_node : goal.prefix_slot-requires-else-has_node
prefix_slot-requires-else-has_node g c =
    let s : AreParts c.args.self.now c.self.inside.cutoff c.self.inside.height c.self.inside.dense c.self.inside.sparse c.self.inside.suffixes = rw c.self.view_is at c.self.invariant.0 in
    rw s.sparse_is (has_node (upper c.args.self.now.cutoff c.args.self.now.leaves) (lower c.args.self.now.cutoff c.args.self.now.leaves) c.args.node (behind s c.args.node c.if-has_node.ensures.has.1) (both s c.args.node c.requires))

pub returns-then-has_node : goal.returns-then-has_node
returns-then-has_node g c =
    let s : AreParts c.args.self.now c.self.inside.cutoff c.self.inside.height c.self.inside.dense c.self.inside.sparse c.self.inside.suffixes = rw c.self.view_is at c.self.invariant.0 in
    c.prefix_slot.ensures ∙ ap (λ ns. dense_end ns c.args.node) s.dense_is ∙ dense_end_is s c.args.node (inside s c.args.node (c.if-has_node.ensures.has.0 refl))

pub returns-else-has_node : goal.returns-else-has_node
returns-else-has_node g c =
    let s : AreParts c.args.self.now c.self.inside.cutoff c.self.inside.height c.self.inside.dense c.self.inside.sparse c.self.inside.suffixes = rw c.self.view_is at c.self.invariant.0 in
    c.prefix_slot-else-has_node.ensures ∙ ap (λ (h : Half). end_slot h c.args.node) s.sparse_is ∙ sparse_end_is s c.args.node (behind s c.args.node c.if-has_node.ensures.has.1)
