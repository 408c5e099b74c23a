use Rattle.std.proofs.Common.{◌∙◌, ap}
use Rattle.filter_trie.proofs.Numbers.{dense_number, dense_slot_is, sparse_slot_is}
use Rattle.trie_model.specs.Halves.{Half, slot_at}
use Rattle.louds_dense.specs.Places.{branches_before, slot_at as dense_slot}
use Rattle.filter_trie.specs.Parts.{AreParts, upper}
use Rattle.filter_trie.proofs.trie.Trie.leaf_slot.Goals as goal

pub returns-in-Dense : goal.returns-in-Dense
returns-in-Dense g c =
    let s : AreParts c.args.self.now c.self.inside.cutoff c.self.inside.height c.self.inside.dense c.self.inside.sparse c.self.inside.suffixes = rw c.self.view_is at c.self.invariant.0 in
    rw c.in-Dense.is (c.leaf_slot.ensures ∙ ap (λ ns. dense_slot ns c.in-Dense.bit) s.dense_is ∙ dense_slot_is s (branches_before (upper c.args.self.now.cutoff c.args.self.now.leaves) c.in-Dense.bit) (dense_number s c.in-Dense.bit))

pub returns-in-Sparse : goal.returns-in-Sparse
returns-in-Sparse g c =
    let s : AreParts c.args.self.now c.self.inside.cutoff c.self.inside.height c.self.inside.dense c.self.inside.sparse c.self.inside.suffixes = rw c.self.view_is at c.self.invariant.0 in
    rw c.in-Sparse.is (c.leaf_slot-in-Sparse.ensures ∙ ap (λ (h : Half). slot_at h c.in-Sparse.place) s.sparse_is ∙ sparse_slot_is s c.in-Sparse.place)
