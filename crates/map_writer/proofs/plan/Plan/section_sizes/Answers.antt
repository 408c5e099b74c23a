use Rattle.std.proofs.Common.{◌∙◌, List, arith}
use Rattle.map_file_model.specs.Maps.{Bytes}
use Rattle.map_writer.specs.Plans.{IsPlanOf}
use Rattle.map_writer.proofs.Sizes.{HasSizes, has_sizes}
use Rattle.trie_build.proofs.Whole.{few_labels, few_nodes, first_size, others_size, tall_labels, tall_nodes}
use Rattle.whole_keys.specs.Whole.{whole_leaves}
use Rattle.map_writer.proofs.plan.Plan.section_sizes.Goals as goal

pub dense_nodes-dense-requires-clause-within : goal.dense_nodes-dense-requires-clause-within
dense_nodes-dense-requires-clause-within c =
    let p = c.requires.1.planned in
    omega (arith, p.cutoff_in, tall_nodes (whole_leaves c.requires.0) c.args.self.now.levels.nodes p.nodes_are)

pub dense_nodes-dense-requires-clause-few : goal.dense_nodes-dense-requires-clause-few
dense_nodes-dense-requires-clause-few c =
    let p = c.requires.1.planned in
    few_nodes (whole_leaves c.requires.0) c.args.self.now.levels.nodes p.cut.trie p.nodes_are

pub sparse_labels-labels-requires-clause-within : goal.sparse_labels-labels-requires-clause-within
sparse_labels-labels-requires-clause-within c =
    let p = c.requires.1.planned in
    omega (arith, p.cutoff_in, tall_labels (whole_leaves c.requires.0) c.args.self.now.levels.labels p.labels_are)

pub sparse_labels-labels-requires-clause-few : goal.sparse_labels-labels-requires-clause-few
sparse_labels-labels-requires-clause-few c =
    let p = c.requires.1.planned in
    few_labels (whole_leaves c.requires.0) c.args.self.now.levels.labels p.cut.trie p.labels_are

sizes : (c : goal.After-sparse_labels-labels) → (keys : List Bytes) → IsPlanOf keys c.args.self.now → HasSizes keys c.args.self.now c.dense_nodes-dense.result c.sparse_labels-labels.result
sizes c keys p =
    let plan = c.args.self.now in
    has_sizes keys plan c.dense_nodes-dense.result c.sparse_labels-labels.result p
    (c.dense_nodes-dense.ensures ∙ first_size (whole_leaves keys) plan.levels.nodes plan.cutoff p.planned.nodes_are p.planned.cutoff_in)
    (c.sparse_labels-labels.ensures ∙ others_size (whole_leaves keys) plan.levels.labels plan.cutoff p.planned.labels_are p.planned.cutoff_in)

pub returns : goal.returns
returns c = record {
  image = λ keys p. (sizes c keys p).exact;
  few_dense = (sizes c c.requires.0 c.requires.1).few_dense;
  few_labels = (sizes c c.requires.0 c.requires.1).few_labels;
}
