use Rattle.std.proofs.Common.{◌<◌, ◌≤◌, length, ap, refl, ◌∙◌, arith, inl, inr}
use Rattle.std.proofs.lemmas.Bool.{cases_lt, false≢true}
use Rattle.filter_trie.proofs.Halves.{has_node}
use Rattle.filter_trie.proofs.Walking.{dense_ends, sparse_ends, there_both}
use Rattle.filter_trie.specs.Parts.{AreParts, lower, upper}
use Rattle.trie_model.specs.Halves.{end_slot}
use Rattle.louds_dense.specs.Places.{end_slot as dense_end_slot}
use Rattle.filter_trie.proofs.trie.Trie.end_slot.Goals as goal

pub prefix_slot-requires-else-has_node : goal.prefix_slot-requires-else-has_node
prefix_slot-requires-else-has_node g c =
    let s : AreParts c.args.self.now c.self.inside.cutoff c.self.inside.height c.self.inside.dense c.self.inside.sparse c.self.inside.suffixes = rw c.self.view_is at c.self.invariant.0 in
    let from : length (upper c.args.self.now.cutoff c.args.self.now.leaves) ≤ c.args.node = elim (cases_lt c.args.node (length c.self.inside.dense)) [
      | inl inside ↦ absurd (false≢true (c.if-has_node.ensures.has.1 inside))
      | inr past ↦ omega (arith, past, ap length s.dense_is)
    ] in
    rw s.sparse_is (has_node (upper c.args.self.now.cutoff c.args.self.now.leaves) (lower c.args.self.now.cutoff c.args.self.now.leaves) c.args.node from (there_both s c.args.node c.requires))

pub returns-then-has_node-clause-slot : goal.returns-then-has_node-clause-slot
returns-then-has_node-clause-slot g c =
    let s : AreParts c.args.self.now c.self.inside.cutoff c.self.inside.height c.self.inside.dense c.self.inside.sparse c.self.inside.suffixes = rw c.self.view_is at c.self.invariant.0 in
    let inside : c.args.node < length (upper c.args.self.now.cutoff c.args.self.now.leaves) = omega (arith, c.if-has_node.ensures.has.0 refl, ap length s.dense_is) in
    dense_ends s c.args.node c.prefix_slot.result inside (c.prefix_slot.ensures ∙ ap (λ ns. dense_end_slot ns c.args.node) s.dense_is)

pub returns-else-has_node-clause-slot : goal.returns-else-has_node-clause-slot
returns-else-has_node-clause-slot g c =
    let s : AreParts c.args.self.now c.self.inside.cutoff c.self.inside.height c.self.inside.dense c.self.inside.sparse c.self.inside.suffixes = rw c.self.view_is at c.self.invariant.0 in
    let from : length (upper c.args.self.now.cutoff c.args.self.now.leaves) ≤ c.args.node = elim (cases_lt c.args.node (length c.self.inside.dense)) [
      | inl inside ↦ absurd (false≢true (c.if-has_node.ensures.has.1 inside))
      | inr past ↦ omega (arith, past, ap length s.dense_is)
    ] in
    sparse_ends s c.args.node from c.requires c.prefix_slot-else-has_node.result (c.prefix_slot-else-has_node.ensures ∙ ap (λ h. end_slot h c.args.node) s.sparse_is)
