use Rattle.std.proofs.Common.{◌≡◌, List, ℕ, arith, ◌∙◌}
use Rattle.filter_model.specs.Keys.{IsKeyList}
use Rattle.filter_model.specs.Leaves.{leaves_of}
use Rattle.filter_model.proofs.Validity.{leaves_are_listed}
use Rattle.filter_trie.proofs.Whole.{tall_nodes}
use Rattle.trie_levels.proofs.Totals.{valid_lists_have_tries}
use Rattle.trie_levels.specs.Spans.{AreSpans, spans_of}
use Rattle.trie_levels.specs.declared.spans.Span.{Span}
use Rattle.filter_bench.proofs.building.build_timed.Goals as goal

are_spans : (keys : List (List ℕ)) (spans : List Span) → IsKeyList keys → spans ≡ spans_of (leaves_of 0 0 keys) → AreSpans (leaves_of 0 0 keys) spans
are_spans keys spans k e = record { trie = valid_lists_have_tries 0 0 (leaves_of 0 0 keys) (leaves_are_listed 0 0 keys (omega arith) k); are = e }

pub plan_spans-requires : goal.plan_spans-requires
plan_spans-requires g c =
    (leaves_of 0 0 c.args.keys.now, are_spans c.args.keys.now c.as_slice-2.result.now c.requires (c.as_slice-2.ensures.value ∙ c.in_ok-spans.ensures 0 0))

pub build-requires-clause-nodes : goal.build-requires-clause-nodes
build-requires-clause-nodes g c =
    c.in_ok-levels.ensures.nodes (leaves_of 0 0 c.args.keys.now) (are_spans c.args.keys.now c.as_slice-2.result.now c.requires (c.as_slice-2.ensures.value ∙ c.in_ok-spans.ensures 0 0))

pub build-requires-clause-labels : goal.build-requires-clause-labels
build-requires-clause-labels g c =
    c.in_ok-levels.ensures.labels (leaves_of 0 0 c.args.keys.now) (are_spans c.args.keys.now c.as_slice-2.result.now c.requires (c.as_slice-2.ensures.value ∙ c.in_ok-spans.ensures 0 0))

pub build-requires-clause-cutoff : goal.build-requires-clause-cutoff
build-requires-clause-cutoff g c =
    let ls = leaves_of 0 0 c.args.keys.now in
    let nodes = c.in_ok-levels.ensures.nodes ls (are_spans c.args.keys.now c.as_slice-2.result.now c.requires (c.as_slice-2.ensures.value ∙ c.in_ok-spans.ensures 0 0)) in
    omega (arith, c.if-dense-height.false, c.height.ensures.nodes, tall_nodes ls c.in_ok-levels.levels.nodes nodes)
