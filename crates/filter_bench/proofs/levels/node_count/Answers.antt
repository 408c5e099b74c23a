use Rattle.std.proofs.Common.{length, ap, arith, length-append}
use Rattle.filter_model.specs.Nodes.{Node}
use Rattle.filter_trie.proofs.Parts.{length-nodes}
use Rattle.filter_trie.specs.Parts.{lower, upper}
use Rattle.trie_model.specs.Halves.{Half}
use Rattle.filter_bench.proofs.levels.node_count.Goals as goal

pub returns : goal.returns
returns c =
    let i = c.args.trie.now in
    omega (
      arith,
      c.node_count-dense.ensures.count,
      c.node_count.ensures,
      c.saturating_add.ensures,
      ap (length {A = Node}) c.dense.ensures,
      ap (λ (h : Half). length h.nodes) c.sparse.ensures,
      length-nodes i,
      length-append (upper i.cutoff i.leaves) (lower i.cutoff i.leaves),
    )
