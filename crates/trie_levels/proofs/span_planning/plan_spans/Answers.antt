use Rattle.std.proofs.Common.{◌≡◌, ◌∙◌, List}
use Rattle.std.proofs.lemmas.Result.{IfOk-weaker}
use Rattle.filter_model.specs.Leaves.{Leaf}
use Rattle.filter_model.specs.Trie.{level_labels, level_nodes}
use Rattle.trie_levels.specs.Neighbours.{AreCounts}
use Rattle.trie_levels.specs.Spans.{AreSpans}
use Rattle.trie_levels.proofs.SpanCounts.{planned, within_tall}
use Rattle.trie_levels.proofs.span_planning.plan_spans.Goals as goal

pub count_closings-requires : goal.count_closings-requires
count_closings-requires c = within_tall c.requires.0 c.args.spans.now c.longest-count.result c.requires.1 c.longest-count.ensures

pub count_lengths-requires : goal.count_lengths-requires
count_lengths-requires c = within_tall c.requires.0 c.args.spans.now c.longest-count.result c.requires.1 c.longest-count.ensures

pub levels_of-requires : goal.levels_of-requires
levels_of-requires c =
    (c.requires.0, planned c.requires.0 c.args.spans.now c.longest-count.result c.as_slice.result.now c.as_slice-2.result.now c.requires.1 c.longest-count.ensures (c.as_slice.ensures.value ∙ c.in_ok-parted.ensures) (c.as_slice-2.ensures.value ∙ c.in_ok-ended.ensures))

pub returns-clause-nodes : goal.returns-clause-nodes
returns-clause-nodes c =
    IfOk-weaker c.levels_of.result (λ levels. (leaves : List Leaf) → AreCounts leaves c.as_slice.result.now c.as_slice-2.result.now → levels.nodes ≡ level_nodes leaves) (λ levels. (leaves : List Leaf) → AreSpans leaves c.args.spans.now → levels.nodes ≡ level_nodes leaves)
    (λ levels known leaves h. known leaves (planned leaves c.args.spans.now c.longest-count.result c.as_slice.result.now c.as_slice-2.result.now h c.longest-count.ensures (c.as_slice.ensures.value ∙ c.in_ok-parted.ensures) (c.as_slice-2.ensures.value ∙ c.in_ok-ended.ensures)))
    c.levels_of.ensures.nodes

pub returns-clause-labels : goal.returns-clause-labels
returns-clause-labels c =
    IfOk-weaker c.levels_of.result (λ levels. (leaves : List Leaf) → AreCounts leaves c.as_slice.result.now c.as_slice-2.result.now → levels.labels ≡ level_labels leaves) (λ levels. (leaves : List Leaf) → AreSpans leaves c.args.spans.now → levels.labels ≡ level_labels leaves)
    (λ levels known leaves h. known leaves (planned leaves c.args.spans.now c.longest-count.result c.as_slice.result.now c.as_slice-2.result.now h c.longest-count.ensures (c.as_slice.ensures.value ∙ c.in_ok-parted.ensures) (c.as_slice-2.ensures.value ∙ c.in_ok-ended.ensures)))
    c.levels_of.ensures.labels
