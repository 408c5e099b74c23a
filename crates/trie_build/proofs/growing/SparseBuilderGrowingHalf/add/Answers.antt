use Rattle.std.proofs.Common.{length, arith}
use Rattle.filter_model.specs.Nodes.{Node}
use Rattle.trie_model.specs.Given.{node_given}
use Rattle.trie_build.proofs.Sizes.{branches_of, room_for_one}
use Rattle.trie_build.proofs.growing.SparseBuilderGrowingHalf.add.Goals as goal

pub node-requires-clause-room : goal.node-requires-clause-room
node-requires-clause-room g c =
    let ns = c.args.self.now.half.nodes in
    omega (arith, room_for_one (λ (n : Node). length n) ns (node_given c.args.end c.args.branches.now) c.args.self.now.limit c.requires.room, branches_of ns)
