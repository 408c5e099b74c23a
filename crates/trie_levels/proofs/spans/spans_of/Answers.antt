use Rattle.std.proofs.Common.{◌+◌, ◌++◌, ◌∙◌, false, ℕ, List, drop, get_or, arith, ap}
use Rattle.filter_model.specs.Leaves.{leaves_of}
use Rattle.trie_levels.specs.declared.spans.Span.{Span}
use Rattle.trie_levels.specs.Spans.{spans_from, spans_of as spans_of_leaves}
use Rattle.trie_levels.proofs.SpanLists.{span_next, spans_more, stub_at}
use Rattle.trie_levels.proofs.spans.spans_of.Goals as goal

pub loop-i-preserved : goal.loop-i-preserved
loop-i-preserved c hash_bits real_bits =
    let keys = c.args.keys.now in
    let ls = leaves_of hash_bits real_bits keys in
    let i = c.loop-i.i in
    ap (λ (l : List Span). l ++ spans_from (i + 1) (drop (i + 1) ls)) c.in_ok-push.ensures.items
    ∙ spans_more c.loop-i.spans.items (spans_of_leaves ls) (spans_from i (drop i ls)) (spans_from (i + 1) (drop (i + 1) ls)) _ (c.loop-i.invariant hash_bits real_bits)
    (span_next hash_bits real_bits keys c.requires.keys i (omega arith) _
    (λ j. record { leaf = i; closes = c.closes.ensures.value j; len = (ap (λ (n : ℕ). (get_or c.args.stubs.now i (record { len = 0; ends = false })).len + n) c.from.ensures ∙ stub_at keys c.args.stubs.now c.requires.stubs i (omega arith) (record { len = 0; ends = false })) j }))
