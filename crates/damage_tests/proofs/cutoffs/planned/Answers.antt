use Rattle.std.proofs.Common.{◌≡◌, ◌≤◌, List, ℕ, arith, ◌∙◌}
use Rattle.filter_model.specs.Keys.{IsKeyList}
use Rattle.filter_model.specs.Leaves.{leaves_of}
use Rattle.filter_model.proofs.Validity.{leaves_are_listed}
use Rattle.filter_trie.proofs.Whole.{tall_nodes}
use Rattle.trie_levels.proofs.Totals.{valid_lists_have_tries}
use Rattle.trie_levels.specs.Spans.{AreSpans, spans_of}
use Rattle.trie_levels.specs.declared.spans.Span.{Span}
use Rattle.damage_tests.proofs.cutoffs.planned.Goals as goal

are_spans : (h r : ℕ) (keys : List (List ℕ)) (spans : List Span) → r ≤ 32 → IsKeyList keys → spans ≡ spans_of (leaves_of h r keys) → AreSpans (leaves_of h r keys) spans
are_spans h r keys spans small k e = record { trie = valid_lists_have_tries h r (leaves_of h r keys) (leaves_are_listed h r keys small k); are = e }

pub plan_spans-requires : goal.plan_spans-requires
plan_spans-requires c = (
  leaves_of c.args.hash_bits c.args.real_bits c.args.keys.now,
  are_spans c.args.hash_bits c.args.real_bits c.args.keys.now c.as_slice-2.result.now c.requires.real_width c.requires.keys (c.as_slice-2.ensures.value ∙ c.in_ok-spans.ensures c.args.hash_bits c.args.real_bits),
)

pub build-requires-clause-nodes : goal.build-requires-clause-nodes
build-requires-clause-nodes c =
    c.in_ok-levels.ensures.nodes (leaves_of c.args.hash_bits c.args.real_bits c.args.keys.now)
    (are_spans c.args.hash_bits c.args.real_bits c.args.keys.now c.as_slice-2.result.now c.requires.real_width c.requires.keys (c.as_slice-2.ensures.value ∙ c.in_ok-spans.ensures c.args.hash_bits c.args.real_bits))

pub build-requires-clause-labels : goal.build-requires-clause-labels
build-requires-clause-labels c =
    c.in_ok-levels.ensures.labels (leaves_of c.args.hash_bits c.args.real_bits c.args.keys.now)
    (are_spans c.args.hash_bits c.args.real_bits c.args.keys.now c.as_slice-2.result.now c.requires.real_width c.requires.keys (c.as_slice-2.ensures.value ∙ c.in_ok-spans.ensures c.args.hash_bits c.args.real_bits))

pub build-requires-clause-cutoff : goal.build-requires-clause-cutoff
build-requires-clause-cutoff c =
    let ls = leaves_of c.args.hash_bits c.args.real_bits c.args.keys.now in
    let nodes = c.in_ok-levels.ensures.nodes ls (are_spans c.args.hash_bits c.args.real_bits c.args.keys.now c.as_slice-2.result.now c.requires.real_width c.requires.keys (c.as_slice-2.ensures.value ∙ c.in_ok-spans.ensures c.args.hash_bits c.args.real_bits)) in
    omega (arith, c.if-cutoff-height.false, c.height.ensures.nodes, tall_nodes ls c.in_ok-levels.levels.nodes nodes)
