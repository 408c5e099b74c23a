use Rattle.std.proofs.Common.{◌≤◌, length, arith}
use Rattle.filter_model.specs.Trie.{nodes}
use Rattle.filter_trie.proofs.LevelStarts.{nodes_within}
use Rattle.filter_trie.proofs.Parts.{tall}
use Rattle.filter_trie.specs.Parts.{AreParts}
use Rattle.filter_trie.specs.Places.{trie}
use Rattle.trie_model.specs.Halves.{begin_of}
use Rattle.filter_trie.proofs.trie.Trie.summed_level.Goals as goal

pub returns-then-taken-most-clause-end : goal.returns-then-taken-most-clause-end
returns-then-taken-most-clause-end g c =
    let s : AreParts c.args.self.now c.self.inside.cutoff c.self.inside.height c.self.inside.dense c.self.inside.sparse c.self.inside.suffixes = rw c.self.view_is at c.self.invariant.0 in
    let next : c.before_node-slots.result.1 ≤ length (nodes c.args.self.now.leaves) =
    omega (arith, c.before_node-slots.ensures.below, nodes_within c.args.self.now.leaves (begin_of (trie c.args.self.now) c.loop-level.node) (tall s)) in
    omega (arith, next, c.saturating_add.ensures)

pub loop-level-preserved : goal.loop-level-preserved
loop-level-preserved g c =
    let s : AreParts c.args.self.now c.self.inside.cutoff c.self.inside.height c.self.inside.dense c.self.inside.sparse c.self.inside.suffixes = rw c.self.view_is at c.self.invariant.0 in
    omega (arith, c.before_node-slots.ensures.below, nodes_within c.args.self.now.leaves (begin_of (trie c.args.self.now) c.loop-level.node) (tall s))
