use Rattle.std.proofs.Common.{◌∙◌, ap}
use Rattle.filter_trie.proofs.Numbers.{dense_number, dense_below_is, sparse_below_is}
use Rattle.trie_model.specs.Halves.{Half, first_below}
use Rattle.louds_dense.specs.Places.{branches_before, first_below as dense_below}
use Rattle.filter_trie.specs.Parts.{AreParts, upper}
use Rattle.filter_trie.proofs.trie.Trie.first_below.Goals as goal

pub returns-in-Dense : goal.returns-in-Dense
returns-in-Dense g c =
    let s : AreParts c.args.self.now c.self.inside.cutoff c.self.inside.height c.self.inside.dense c.self.inside.sparse c.self.inside.suffixes = rw c.self.view_is at c.self.invariant.0 in
    rw c.in-Dense.is (c.first_below.ensures ∙ ap (λ ns. dense_below ns c.in-Dense.bit) s.dense_is ∙ dense_below_is s (branches_before (upper c.args.self.now.cutoff c.args.self.now.leaves) c.in-Dense.bit) (dense_number s c.in-Dense.bit))

pub returns-in-Sparse : goal.returns-in-Sparse
returns-in-Sparse g c =
    let s : AreParts c.args.self.now c.self.inside.cutoff c.self.inside.height c.self.inside.dense c.self.inside.sparse c.self.inside.suffixes = rw c.self.view_is at c.self.invariant.0 in
    rw c.in-Sparse.is (c.first_below-in-Sparse.ensures ∙ ap (λ (h : Half). first_below h c.in-Sparse.place) s.sparse_is ∙ sparse_below_is s c.in-Sparse.place)
