use Rattle.std.proofs.Common.{arith}
use Rattle.filter_model.specs.Nodes.{Node}
use Rattle.trie_model.specs.Given.{node_given}
use Rattle.trie_build.proofs.Sizes.{one_each, room_for_one}
use Rattle.trie_build.proofs.growing.DenseBuilderGrowingHalf.add.Goals as goal

pub node-requires-clause-room : goal.node-requires-clause-room
node-requires-clause-room g c =
    let ns = c.args.self.now.nodes in
    omega (arith, room_for_one (λ (n : Node). 1) ns (node_given c.args.end c.args.branches.now) c.args.self.now.limit c.requires.room, one_each ns)
