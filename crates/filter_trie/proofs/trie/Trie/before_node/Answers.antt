use Rattle.std.proofs.Common.{◌∙◌, ap, refl}
use Rattle.filter_trie.proofs.Numbers.{behind, dense_before, dense_begins_at, dense_below_is, dense_number, inside, sparse_before, sparse_begins, sparse_behind, sparse_below_is}
use Rattle.louds_dense.specs.Places.{branches_before, first_below as dense_below, node_slot}
use Rattle.filter_trie.specs.Parts.{AreParts, lower, upper}
use Rattle.filter_trie.specs.Places.{trie}
use Rattle.trie_laws.specs.Halves.{second_half}
use Rattle.trie_model.specs.Halves.{Half, begin_of, first_below, slot_at}
use Rattle.filter_trie.proofs.trie.Trie.before_node.Goals as goal

pub before_node-requires-clause-there : goal.before_node-requires-clause-there
before_node-requires-clause-there g c =
    let s : AreParts c.args.self.now c.self.inside.cutoff c.self.inside.height c.self.inside.dense c.self.inside.sparse c.self.inside.suffixes = rw c.self.view_is at c.self.invariant.0 in
    rw s.sparse_is (sparse_behind s c.args.node c.requires)

pub returns-then-has_node-clause-slots : goal.returns-then-has_node-clause-slots
returns-then-has_node-clause-slots g c =
    let s : AreParts c.args.self.now c.self.inside.cutoff c.self.inside.height c.self.inside.dense c.self.inside.sparse c.self.inside.suffixes = rw c.self.view_is at c.self.invariant.0 in
    c.node_slot.ensures ∙ ap (λ ns. node_slot ns c.args.node) s.dense_is ∙ dense_before s c.args.node (inside s c.args.node (c.if-has_node.ensures.has.0 refl))

pub returns-then-has_node-clause-below : goal.returns-then-has_node-clause-below
returns-then-has_node-clause-below g c =
    let s : AreParts c.args.self.now c.self.inside.cutoff c.self.inside.height c.self.inside.dense c.self.inside.sparse c.self.inside.suffixes = rw c.self.view_is at c.self.invariant.0 in
    c.first_below.ensures ∙ ap (λ ns. dense_below ns c.first_place.result) s.dense_is ∙ dense_below_is s (branches_before (upper c.args.self.now.cutoff c.args.self.now.leaves) c.first_place.result) (dense_number s c.first_place.result)
    ∙ (dense_begins_at s c.args.node c.first_place.result (inside s c.args.node (c.if-has_node.ensures.has.0 refl)) c.first_place.ensures).below

pub returns-else-has_node-clause-slots : goal.returns-else-has_node-clause-slots
returns-else-has_node-clause-slots g c =
    let s : AreParts c.args.self.now c.self.inside.cutoff c.self.inside.height c.self.inside.dense c.self.inside.sparse c.self.inside.suffixes = rw c.self.view_is at c.self.invariant.0 in
    let from = behind s c.args.node c.if-has_node.ensures.has.1 in
    c.before_node.ensures.slots ∙ ap (λ (h : Half). slot_at h (begin_of h c.args.node)) s.sparse_is ∙ sparse_before s c.args.node from

pub returns-else-has_node-clause-below : goal.returns-else-has_node-clause-below
returns-else-has_node-clause-below g c =
    let s : AreParts c.args.self.now c.self.inside.cutoff c.self.inside.height c.self.inside.dense c.self.inside.sparse c.self.inside.suffixes = rw c.self.view_is at c.self.invariant.0 in
    let from = behind s c.args.node c.if-has_node.ensures.has.1 in
    let half = second_half (upper c.args.self.now.cutoff c.args.self.now.leaves) (lower c.args.self.now.cutoff c.args.self.now.leaves) in
    c.before_node.ensures.below ∙ ap (λ (h : Half). first_below h (begin_of h c.args.node)) s.sparse_is ∙ sparse_below_is s (begin_of half c.args.node)
    ∙ ap (first_below (trie c.args.self.now)) (sparse_begins s c.args.node from)
