use Rattle.std.proofs.Common.{Some, None, refl}
use Rattle.filter_trie.proofs.Halves.{has_node}
use Rattle.filter_trie.proofs.Numbers.{behind, both, dense_next_is, dense_next_taken, inside, next_search, sparse_next_is, sparse_taken}
use Rattle.trie_model.specs.Branching.{next_at}
use Rattle.filter_trie.specs.Parts.{AreParts, lower, upper}
use Rattle.filter_trie.proofs.trie.Trie.next_branch.Goals as goal

pub next_branch-requires-else-has_node-clause-node : goal.next_branch-requires-else-has_node-clause-node
next_branch-requires-else-has_node-clause-node g c =
    let s : AreParts c.args.self.now c.self.inside.cutoff c.self.inside.height c.self.inside.dense c.self.inside.sparse c.self.inside.suffixes = rw c.self.view_is at c.self.invariant.0 in
    rw s.sparse_is (has_node (upper c.args.self.now.cutoff c.args.self.now.leaves) (lower c.args.self.now.cutoff c.args.self.now.leaves) c.args.node (behind s c.args.node c.if-has_node.ensures.has.1) (both s c.args.node c.requires.node))

pub returns-in-Some-clause-place : goal.returns-in-Some-clause-place
returns-in-Some-clause-place g c =
    let s : AreParts c.args.self.now c.self.inside.cutoff c.self.inside.height c.self.inside.dense c.self.inside.sparse c.self.inside.suffixes = rw c.self.view_is at c.self.invariant.0 in
    dense_next_is s (Some c.in-Some.bit) c.args.node c.args.byte (inside s c.args.node (c.if-has_node.ensures.has.0 refl)) c.requires.byte (rw s.dense_is at c.in-Some.ensures)

pub returns-in-Some-clause-taken : goal.returns-in-Some-clause-taken
returns-in-Some-clause-taken g c =
    let s : AreParts c.args.self.now c.self.inside.cutoff c.self.inside.height c.self.inside.dense c.self.inside.sparse c.self.inside.suffixes = rw c.self.view_is at c.self.invariant.0 in
    dense_next_taken s c.args.node c.args.byte c.in-Some.bit (inside s c.args.node (c.if-has_node.ensures.has.0 refl)) c.requires.byte (rw s.dense_is at c.in-Some.ensures)

pub returns-in-None-clause-place : goal.returns-in-None-clause-place
returns-in-None-clause-place g c =
    let s : AreParts c.args.self.now c.self.inside.cutoff c.self.inside.height c.self.inside.dense c.self.inside.sparse c.self.inside.suffixes = rw c.self.view_is at c.self.invariant.0 in
    dense_next_is s None c.args.node c.args.byte (inside s c.args.node (c.if-has_node.ensures.has.0 refl)) c.requires.byte (rw s.dense_is at c.in-None.ensures)

pub returns-in-Some-next_branch-clause-place : goal.returns-in-Some-next_branch-clause-place
returns-in-Some-next_branch-clause-place g c =
    let s : AreParts c.args.self.now c.self.inside.cutoff c.self.inside.height c.self.inside.dense c.self.inside.sparse c.self.inside.suffixes = rw c.self.view_is at c.self.invariant.0 in
    sparse_next_is s (Some c.in-Some-next_branch.place) c.args.node c.args.byte (behind s c.args.node c.if-has_node.ensures.has.1) (rw s.sparse_is at c.in-Some-next_branch.ensures)

pub returns-in-Some-next_branch-clause-taken : goal.returns-in-Some-next_branch-clause-taken
returns-in-Some-next_branch-clause-taken g c =
    let s : AreParts c.args.self.now c.self.inside.cutoff c.self.inside.height c.self.inside.dense c.self.inside.sparse c.self.inside.suffixes = rw c.self.view_is at c.self.invariant.0 in
    sparse_taken s (λ n. next_at n c.args.byte) (next_search c.args.byte) c.args.node c.in-Some-next_branch.place (behind s c.args.node c.if-has_node.ensures.has.1) c.requires.node (rw s.sparse_is at c.in-Some-next_branch.ensures)

pub returns-in-None-next_branch-clause-place : goal.returns-in-None-next_branch-clause-place
returns-in-None-next_branch-clause-place g c =
    let s : AreParts c.args.self.now c.self.inside.cutoff c.self.inside.height c.self.inside.dense c.self.inside.sparse c.self.inside.suffixes = rw c.self.view_is at c.self.invariant.0 in
    sparse_next_is s None c.args.node c.args.byte (behind s c.args.node c.if-has_node.ensures.has.1) (rw s.sparse_is at c.in-None-next_branch.ensures)
