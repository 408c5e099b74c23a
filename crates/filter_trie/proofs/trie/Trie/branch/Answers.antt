use Rattle.std.proofs.Common.{Some, None, refl}
use Rattle.filter_trie.proofs.Halves.{has_node}
use Rattle.filter_trie.proofs.Numbers.{behind, both, dense_branch_is, dense_branch_taken, inside, branch_search, sparse_branch_is, sparse_taken}
use Rattle.trie_model.specs.Branching.{branch_at}
use Rattle.filter_trie.specs.Parts.{AreParts, lower, upper}
use Rattle.filter_trie.proofs.trie.Trie.branch.Goals as goal

pub branch-place-requires : goal.branch-place-requires
branch-place-requires g c =
    let s : AreParts c.args.self.now c.self.inside.cutoff c.self.inside.height c.self.inside.dense c.self.inside.sparse c.self.inside.suffixes = rw c.self.view_is at c.self.invariant.0 in
    rw s.sparse_is (has_node (upper c.args.self.now.cutoff c.args.self.now.leaves) (lower c.args.self.now.cutoff c.args.self.now.leaves) c.args.node (behind s c.args.node c.if-has_node.ensures.has.1) (both s c.args.node c.requires))

pub returns-in_Some-bit-clause-place : goal.returns-in_Some-bit-clause-place
returns-in_Some-bit-clause-place g c =
    let s : AreParts c.args.self.now c.self.inside.cutoff c.self.inside.height c.self.inside.dense c.self.inside.sparse c.self.inside.suffixes = rw c.self.view_is at c.self.invariant.0 in
    dense_branch_is s (Some c.in_Some-bit.bit) c.args.node c.args.byte (inside s c.args.node (c.if-has_node.ensures.has.0 refl)) c.ranges.byte.fits (rw s.dense_is at c.in_Some-bit.ensures)

pub returns-in_Some-bit-clause-taken : goal.returns-in_Some-bit-clause-taken
returns-in_Some-bit-clause-taken g c =
    let s : AreParts c.args.self.now c.self.inside.cutoff c.self.inside.height c.self.inside.dense c.self.inside.sparse c.self.inside.suffixes = rw c.self.view_is at c.self.invariant.0 in
    dense_branch_taken s c.args.node c.args.byte c.in_Some-bit.bit (inside s c.args.node (c.if-has_node.ensures.has.0 refl)) c.ranges.byte.fits (rw s.dense_is at c.in_Some-bit.ensures)

pub returns-in_None-bit-clause-place : goal.returns-in_None-bit-clause-place
returns-in_None-bit-clause-place g c =
    let s : AreParts c.args.self.now c.self.inside.cutoff c.self.inside.height c.self.inside.dense c.self.inside.sparse c.self.inside.suffixes = rw c.self.view_is at c.self.invariant.0 in
    dense_branch_is s None c.args.node c.args.byte (inside s c.args.node (c.if-has_node.ensures.has.0 refl)) c.ranges.byte.fits (rw s.dense_is at c.in_None-bit.ensures)

pub returns-in_Some-place-clause-place : goal.returns-in_Some-place-clause-place
returns-in_Some-place-clause-place g c =
    let s : AreParts c.args.self.now c.self.inside.cutoff c.self.inside.height c.self.inside.dense c.self.inside.sparse c.self.inside.suffixes = rw c.self.view_is at c.self.invariant.0 in
    sparse_branch_is s (Some c.in_Some-place.place) c.args.node c.args.byte (behind s c.args.node c.if-has_node.ensures.has.1) (rw s.sparse_is at c.in_Some-place.ensures)

pub returns-in_Some-place-clause-taken : goal.returns-in_Some-place-clause-taken
returns-in_Some-place-clause-taken g c =
    let s : AreParts c.args.self.now c.self.inside.cutoff c.self.inside.height c.self.inside.dense c.self.inside.sparse c.self.inside.suffixes = rw c.self.view_is at c.self.invariant.0 in
    sparse_taken s (λ n. branch_at n c.args.byte) (branch_search c.args.byte) c.args.node c.in_Some-place.place (behind s c.args.node c.if-has_node.ensures.has.1) c.requires (rw s.sparse_is at c.in_Some-place.ensures)

pub returns-in_None-place-clause-place : goal.returns-in_None-place-clause-place
returns-in_None-place-clause-place g c =
    let s : AreParts c.args.self.now c.self.inside.cutoff c.self.inside.height c.self.inside.dense c.self.inside.sparse c.self.inside.suffixes = rw c.self.view_is at c.self.invariant.0 in
    sparse_branch_is s None c.args.node c.args.byte (behind s c.args.node c.if-has_node.ensures.has.1) (rw s.sparse_is at c.in_None-place.ensures)
