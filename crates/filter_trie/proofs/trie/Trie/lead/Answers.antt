use Rattle.std.proofs.Common.{◌∙◌, ap}
use Rattle.filter_trie.proofs.Numbers.{dense_child_is, dense_number, dense_slot_is, number_within, sparse_child_is, sparse_slot_is}
use Rattle.louds_dense.specs.Places as dense
use Rattle.trie_model.specs.Halves.{Half, child_at, slot_at}
use Rattle.filter_trie.specs.Parts.{AreParts, upper}
use Rattle.filter_trie.proofs.trie.Trie.lead.Goals as goal

pub returns-in-Some-clause-lead : goal.returns-in-Some-clause-lead
returns-in-Some-clause-lead g c =
    let s : AreParts c.args.self.now c.self.inside.cutoff c.self.inside.height c.self.inside.dense c.self.inside.sparse c.self.inside.suffixes = rw c.self.view_is at c.self.invariant.0 in
    let t : dense.IsTaken (upper c.args.self.now.cutoff c.args.self.now.leaves) c.in-Dense.bit = rw c.in-Dense.is at c.requires in
    rw c.in-Dense.is (c.in-Some.ensures ∙ ap (λ ns. dense.child_at ns c.in-Dense.bit) s.dense_is ∙ dense_child_is s c.in-Dense.bit t)

pub returns-in-Some-clause-number : goal.returns-in-Some-clause-number
returns-in-Some-clause-number g c =
    let s : AreParts c.args.self.now c.self.inside.cutoff c.self.inside.height c.self.inside.dense c.self.inside.sparse c.self.inside.suffixes = rw c.self.view_is at c.self.invariant.0 in
    number_within s c.args.place c.requires

pub returns-in-None-clause-lead : goal.returns-in-None-clause-lead
returns-in-None-clause-lead g c =
    let s : AreParts c.args.self.now c.self.inside.cutoff c.self.inside.height c.self.inside.dense c.self.inside.sparse c.self.inside.suffixes = rw c.self.view_is at c.self.invariant.0 in
    let t : dense.IsTaken (upper c.args.self.now.cutoff c.args.self.now.leaves) c.in-Dense.bit = rw c.in-Dense.is at c.requires in
    rw c.in-Dense.is (c.in-None.ensures ∙ ap (λ ns. dense.child_at ns c.in-Dense.bit) s.dense_is ∙ dense_child_is s c.in-Dense.bit t, c.leaf_slot.ensures ∙ ap (λ ns. dense.slot_at ns c.in-Dense.bit) s.dense_is ∙ dense_slot_is s (dense.branches_before (upper c.args.self.now.cutoff c.args.self.now.leaves) c.in-Dense.bit) (dense_number s c.in-Dense.bit))

pub returns-in-None-clause-number : goal.returns-in-None-clause-number
returns-in-None-clause-number g c =
    let s : AreParts c.args.self.now c.self.inside.cutoff c.self.inside.height c.self.inside.dense c.self.inside.sparse c.self.inside.suffixes = rw c.self.view_is at c.self.invariant.0 in
    number_within s c.args.place c.requires

pub returns-in-Some-child-clause-lead : goal.returns-in-Some-child-clause-lead
returns-in-Some-child-clause-lead g c =
    let s : AreParts c.args.self.now c.self.inside.cutoff c.self.inside.height c.self.inside.dense c.self.inside.sparse c.self.inside.suffixes = rw c.self.view_is at c.self.invariant.0 in
    rw c.in-Sparse.is (c.in-Some-child.ensures ∙ ap (λ (h : Half). child_at h c.in-Sparse.place) s.sparse_is ∙ sparse_child_is s c.in-Sparse.place)

pub returns-in-Some-child-clause-number : goal.returns-in-Some-child-clause-number
returns-in-Some-child-clause-number g c =
    let s : AreParts c.args.self.now c.self.inside.cutoff c.self.inside.height c.self.inside.dense c.self.inside.sparse c.self.inside.suffixes = rw c.self.view_is at c.self.invariant.0 in
    number_within s c.args.place c.requires

pub returns-in-None-child-clause-lead : goal.returns-in-None-child-clause-lead
returns-in-None-child-clause-lead g c =
    let s : AreParts c.args.self.now c.self.inside.cutoff c.self.inside.height c.self.inside.dense c.self.inside.sparse c.self.inside.suffixes = rw c.self.view_is at c.self.invariant.0 in
    rw c.in-Sparse.is (c.in-None-child.ensures ∙ ap (λ (h : Half). child_at h c.in-Sparse.place) s.sparse_is ∙ sparse_child_is s c.in-Sparse.place, c.leaf_slot-in-None-child.ensures ∙ ap (λ (h : Half). slot_at h c.in-Sparse.place) s.sparse_is ∙ sparse_slot_is s c.in-Sparse.place)

pub returns-in-None-child-clause-number : goal.returns-in-None-child-clause-number
returns-in-None-child-clause-number g c =
    let s : AreParts c.args.self.now c.self.inside.cutoff c.self.inside.height c.self.inside.dense c.self.inside.sparse c.self.inside.suffixes = rw c.self.view_is at c.self.invariant.0 in
    number_within s c.args.place c.requires
