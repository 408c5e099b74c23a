use Rattle.std.proofs.Common.{length, ap, arith, length-append}
use Rattle.filter_model.specs.Nodes.{Node}
use Rattle.filter_trie.proofs.Parts.{length-nodes}
use Rattle.filter_trie.specs.Parts.{lower, upper}
use Rattle.trie_model.specs.Halves.{Half}
use Rattle.filter_tests.proofs.tries.has_node.Goals as goal

pub returns-then-has_node : goal.returns-then-has_node
returns-then-has_node c =
    let i = c.args.trie.now in
    λ t. omega (arith, c.has_node.ensures.has.0 t, ap (length {A = Node}) c.dense.ensures, length-nodes i, length-append (upper i.cutoff i.leaves) (lower i.cutoff i.leaves))

pub returns-else-has_node : goal.returns-else-has_node
returns-else-has_node c =
    let i = c.args.trie.now in
    λ t. omega (
      arith,
      (c.has_node-else-has_node.ensures.0 t).1,
      ap (λ (h : Half). length h.nodes) c.sparse.ensures,
      ap (λ (h : Half). h.before.nodes) c.sparse.ensures,
      length-nodes i,
      length-append (upper i.cutoff i.leaves) (lower i.cutoff i.leaves),
    )
