use Rattle.std.proofs.Common.{◌≡◌, ◌<◌, ◌+◌, ◌-◌, ◌==◌, ◌∙◌, ℕ, Bool, length, get_or, arith}
use Rattle.std.proofs.lemmas.Bool.{eq-eqb}
use Rattle.std.proofs.lemmas.Grind.{get_or_default_zero}
use Rattle.std.proofs.lemmas.List.{length-set}
use Rattle.trie_levels.specs.declared.spans.Span.{Span}
use Rattle.trie_levels.proofs.Loops.{one_less}
use Rattle.trie_levels.proofs.SpanCounts.{all_counted, counted, counts_fit}
use Rattle.trie_levels.proofs.span_planning.count_lengths.Goals as goal

abbrev no_span : Span
no_span = record { leaf = 0; closes = 0; len = 0 }

abbrev test : ℕ → Span → Bool
test n s = s.len == n + 1

pub overflow_add-index_mut : goal.overflow_add-index_mut
overflow_add-index_mut c =
    let i = c.loop-i.i in
    let counts = c.loop-i.counts.items in
    let spans = c.args.spans.now in
    let within : i < length spans = omega arith in
    let fits = c.requires i no_span within in
    let at = c.from.result - 1 in
    let one : (get_or spans i no_span).len ≡ at + 1 = omega (arith, c.from.ensures, fits.0) in
    let inside : at < c.args.levels = omega (arith, c.from.ensures, fits.0, fits.1) in
    let value = c.index_mut.ensures.value ∙ get_or_default_zero counts at c.index_mut.result.now (omega (arith, inside, c.loop-i.invariant.0)) in
    omega (arith, counts_fit test spans i no_span counts c.args.levels at c.index_mut.result.now within inside (eq-eqb (get_or spans i no_span).len (at + 1) one) value c.loop-i.invariant.1)

pub loop-i-preserved : goal.loop-i-preserved
loop-i-preserved c =
    let i = c.loop-i.i in
    let counts = c.loop-i.counts.items in
    let spans = c.args.spans.now in
    let within : i < length spans = omega arith in
    let fits = c.requires i no_span within in
    let at = c.from.result - 1 in
    let one : (get_or spans i no_span).len ≡ at + 1 = omega (arith, c.from.ensures, fits.0) in
    let inside : at < c.args.levels = omega (arith, c.from.ensures, fits.0, fits.1) in
    let value = c.index_mut.ensures.value ∙ get_or_default_zero counts at c.index_mut.result.now (omega (arith, inside, c.loop-i.invariant.0)) in (
      length-set counts at (c.index_mut.result.now + 1) ∙ c.loop-i.invariant.0,
      counted test spans i no_span counts c.args.levels at c.index_mut.result.now within c.loop-i.invariant.0 inside (λ n. one_less (get_or spans i no_span).len at n one) value c.loop-i.invariant.1,
    )

pub returns : goal.returns
returns c = all_counted test c.args.spans.now c.loop-i.i c.loop-i.counts.items c.args.levels (omega arith) c.loop-i.invariant.0 c.loop-i.invariant.1
