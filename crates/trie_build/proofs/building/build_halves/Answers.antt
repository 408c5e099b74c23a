use Rattle.std.proofs.Common.{◌∙◌, ap, arith}
use Rattle.louds_sparse.specs.Building.{HalfInRoom}
use Rattle.trie_build.specs.Building.{half_to}
use Rattle.trie_build.proofs.Whole.{few_labels, few_nodes, first_are, may_begin, may_go_on, others_are, tall_labels, tall_nodes}
use Rattle.trie_model.specs.Halves.{Half}
use Rattle.trie_build.proofs.building.build_halves.Goals as goal

pub dense_nodes-requires-clause-within : goal.dense_nodes-requires-clause-within
dense_nodes-requires-clause-within g c = omega (arith, c.requires.cutoff_in, tall_nodes g.leaves c.args.levels.now.nodes c.requires.nodes_are)

pub dense_nodes-requires-clause-few : goal.dense_nodes-requires-clause-few
dense_nodes-requires-clause-few g c = few_nodes g.leaves c.args.levels.now.nodes c.requires.cut.trie c.requires.nodes_are

pub add_levels-requires : goal.add_levels-requires
add_levels-requires g c = (
  g.leaves,
  may_begin c.args.keys.now g.leaves c.args.spans.items c.args.levels.now c.args.cutoff c.dense_nodes.result c.in_ok-dense.dense c.requires c.dense_nodes.ensures c.in_ok-dense.ensures,
)

pub sparse_labels-requires-clause-within : goal.sparse_labels-requires-clause-within
sparse_labels-requires-clause-within g c = omega (arith, c.requires.cutoff_in, tall_labels g.leaves c.args.levels.now.labels c.requires.labels_are)

pub sparse_labels-requires-clause-few : goal.sparse_labels-requires-clause-few
sparse_labels-requires-clause-few g c = few_labels g.leaves c.args.levels.now.labels c.requires.cut.trie c.requires.labels_are

pub add_levels-requires-2 : goal.add_levels-requires-2
add_levels-requires-2 g c =
    let first = may_begin c.args.keys.now g.leaves c.args.spans.items c.args.levels.now c.args.cutoff c.dense_nodes.result c.in_ok-dense.dense c.requires c.dense_nodes.ensures c.in_ok-dense.ensures in (
      g.leaves,
      may_go_on c.args.keys.now g.leaves c.args.spans.items c.add_levels.new.spans.items c.args.levels.now c.args.cutoff c.sparse_labels.result c.height-height.result c.in_ok-dense-2.dense c.counts.result c.in_ok-sparse.sparse
          c.requires c.sparse_labels.ensures (omega (arith, c.height-height.ensures.nodes, tall_nodes g.leaves c.args.levels.now.nodes c.requires.nodes_are)) (c.in_ok-dense-2.ensures ∙ ap (λ (h : Half). h.nodes) (c.in_ok-add_levels.ensures.half g.leaves first)) c.counts.ensures.counts c.in_ok-sparse.ensures (c.in_ok-add_levels.ensures.spans g.leaves first),
    )

pub returns-clause-dense : goal.returns-clause-dense
returns-clause-dense g c =
    let first = may_begin c.args.keys.now g.leaves c.args.spans.items c.args.levels.now c.args.cutoff c.dense_nodes.result c.in_ok-dense.dense c.requires c.dense_nodes.ensures c.in_ok-dense.ensures in
    c.in_ok-dense-2.ensures ∙ ap (λ (h : Half). h.nodes) (c.in_ok-add_levels.ensures.half g.leaves first) ∙ first_are g.leaves c.args.cutoff c.requires.cutoff_in

pub returns-clause-sparse : goal.returns-clause-sparse
returns-clause-sparse g c =
    let first = may_begin c.args.keys.now g.leaves c.args.spans.items c.args.levels.now c.args.cutoff c.dense_nodes.result c.in_ok-dense.dense c.requires c.dense_nodes.ensures c.in_ok-dense.ensures in
    let second = may_go_on c.args.keys.now g.leaves c.args.spans.items c.add_levels.new.spans.items c.args.levels.now c.args.cutoff c.sparse_labels.result c.height-height.result c.in_ok-dense-2.dense c.counts.result c.in_ok-sparse.sparse
    c.requires c.sparse_labels.ensures (omega (arith, c.height-height.ensures.nodes, tall_nodes g.leaves c.args.levels.now.nodes c.requires.nodes_are)) (c.in_ok-dense-2.ensures ∙ ap (λ (h : Half). h.nodes) (c.in_ok-add_levels.ensures.half g.leaves first)) c.counts.ensures.counts c.in_ok-sparse.ensures (c.in_ok-add_levels.ensures.spans g.leaves first) in
    others_are g.leaves c.args.cutoff c.height-height.result c.in_ok-dense-2.dense c.in_ok-sparse-2.sparse c.requires.cutoff_in (omega (arith, c.height-height.ensures.nodes, tall_nodes g.leaves c.args.levels.now.nodes c.requires.nodes_are))
    (c.in_ok-dense-2.ensures ∙ ap (λ (h : Half). h.nodes) (c.in_ok-add_levels.ensures.half g.leaves first)) (c.in_ok-sparse-2.ensures ∙ c.in_ok-add_levels-2.ensures.half g.leaves second ∙ ap (half_to g.leaves c.height-height.result) (ap (λ (s : HalfInRoom). s.half.before) c.in_ok-sparse.ensures ∙ c.counts.ensures.counts))
