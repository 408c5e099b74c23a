use Rattle.std.proofs.Common.{◌∙◌, ap}
use Rattle.filter_trie.proofs.Numbers.{dense_below_is, dense_number, dense_slot_is, sparse_below_is, sparse_slot_is}
use Rattle.louds_dense.specs.Places.{branches_before, first_below as dense_below, slot_at as dense_slot}
use Rattle.filter_trie.specs.Parts.{AreParts, upper}
use Rattle.filter_trie.proofs.trie.Trie.before_place.Goals as goal

pub returns-in-Dense-clause-slots : goal.returns-in-Dense-clause-slots
returns-in-Dense-clause-slots g c =
    let s : AreParts c.args.self.now c.self.inside.cutoff c.self.inside.height c.self.inside.dense c.self.inside.sparse c.self.inside.suffixes = rw c.self.view_is at c.self.invariant.0 in
    rw c.in-Dense.is (c.before_place.ensures.slots ∙ ap (λ ns. dense_slot ns c.in-Dense.bit) s.dense_is ∙ dense_slot_is s (branches_before (upper c.args.self.now.cutoff c.args.self.now.leaves) c.in-Dense.bit) (dense_number s c.in-Dense.bit))

pub returns-in-Dense-clause-below : goal.returns-in-Dense-clause-below
returns-in-Dense-clause-below g c =
    let s : AreParts c.args.self.now c.self.inside.cutoff c.self.inside.height c.self.inside.dense c.self.inside.sparse c.self.inside.suffixes = rw c.self.view_is at c.self.invariant.0 in
    rw c.in-Dense.is (c.before_place.ensures.below ∙ ap (λ ns. dense_below ns c.in-Dense.bit) s.dense_is ∙ dense_below_is s (branches_before (upper c.args.self.now.cutoff c.args.self.now.leaves) c.in-Dense.bit) (dense_number s c.in-Dense.bit))

pub returns-in-Sparse-clause-slots : goal.returns-in-Sparse-clause-slots
returns-in-Sparse-clause-slots g c =
    let s : AreParts c.args.self.now c.self.inside.cutoff c.self.inside.height c.self.inside.dense c.self.inside.sparse c.self.inside.suffixes = rw c.self.view_is at c.self.invariant.0 in
    rw c.in-Sparse.is (c.before_sparse.ensures.slots ∙ sparse_slot_is s c.in-Sparse.place)

pub returns-in-Sparse-clause-below : goal.returns-in-Sparse-clause-below
returns-in-Sparse-clause-below g c =
    let s : AreParts c.args.self.now c.self.inside.cutoff c.self.inside.height c.self.inside.dense c.self.inside.sparse c.self.inside.suffixes = rw c.self.view_is at c.self.invariant.0 in
    rw c.in-Sparse.is (c.before_sparse.ensures.below ∙ sparse_below_is s c.in-Sparse.place)
