use Rattle.std.proofs.Common.{◌∙◌, ap}
use Rattle.std.specs.Prelude.{is_some}
use Rattle.filter_trie.proofs.Numbers.{dense_child_is, sparse_child_is}
use Rattle.trie_model.specs.Halves.{Half, child_at}
use Rattle.louds_dense.specs.Places as dense
use Rattle.filter_trie.specs.Parts.{AreParts, upper}
use Rattle.filter_trie.proofs.trie.Trie.leads_on.Goals as goal

pub returns-in-Dense : goal.returns-in-Dense
returns-in-Dense g c =
    let s : AreParts c.args.self.now c.self.inside.cutoff c.self.inside.height c.self.inside.dense c.self.inside.sparse c.self.inside.suffixes = rw c.self.view_is at c.self.invariant.0 in
    let t : dense.IsTaken (upper c.args.self.now.cutoff c.args.self.now.leaves) c.in-Dense.bit = rw c.in-Dense.is at c.requires in
    rw c.in-Dense.is (c.leads_on.ensures ∙ ap is_some (ap (λ ns. dense.child_at ns c.in-Dense.bit) s.dense_is ∙ dense_child_is s c.in-Dense.bit t))

pub returns-in-Sparse : goal.returns-in-Sparse
returns-in-Sparse g c =
    let s : AreParts c.args.self.now c.self.inside.cutoff c.self.inside.height c.self.inside.dense c.self.inside.sparse c.self.inside.suffixes = rw c.self.view_is at c.self.invariant.0 in
    rw c.in-Sparse.is (c.leads_on-in-Sparse.ensures ∙ ap is_some (ap (λ (h : Half). child_at h c.in-Sparse.place) s.sparse_is ∙ sparse_child_is s c.in-Sparse.place))
