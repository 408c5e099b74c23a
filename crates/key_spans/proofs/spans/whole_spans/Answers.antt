use Rattle.std.proofs.Common.{◌+◌, ◌++◌, ◌∷◌, ◌∙◌, List, drop, arith, ap, sym}
use Rattle.key_spans.proofs.Neighbours.{span_next, spans_more}
use Rattle.key_spans.proofs.spans.whole_spans.Goals as goal
use Rattle.trie_levels.specs.declared.spans.Span.{Span}
use Rattle.trie_levels.specs.Spans.{spans_from, spans_of}
use Rattle.whole_keys.specs.Whole.{whole_leaves}

pub loop-i-preserved : goal.loop-i-preserved
loop-i-preserved c =
    let keys = c.args.keys.now in
    let ls = whole_leaves keys in
    let i = c.loop-i.i in
    ap (λ (l : List Span). l ++ spans_from (i + 1) (drop (i + 1) ls)) c.in_ok-push.ensures.items
    ∙ spans_more c.loop-i.spans.items (spans_of ls) (spans_from i (drop i ls)) (spans_from (i + 1) (drop (i + 1) ls)) _ c.loop-i.invariant
    (span_next keys c.requires i (omega arith) ∙ ap (λ (s : Span). s ∷ spans_from (i + 1) (drop (i + 1) ls)) (sym c.whole_span.ensures))
