use Rattle.std.proofs.Common.{◌≡◌, ◌<◌, ◌+◌, ◌-◌, ◌==◌, ◌∙◌, ℕ, Bool, length, get_or, drop, List, subst, sym, arith}
use Rattle.std.proofs.lemmas.Bool.{eq-eqb, ne_eqb}
use Rattle.std.proofs.lemmas.Grind.{get_or_default_zero}
use Rattle.std.proofs.lemmas.List.{length-set}
use Rattle.std.specs.Prelude.{count_by}
use Rattle.trie_levels.specs.declared.spans.Span.{Span}
use Rattle.trie_levels.proofs.Loops.{one_less}
use Rattle.trie_levels.proofs.SpanCounts.{all_counted, counted, counts_fit, not_counted}
use Rattle.trie_levels.proofs.span_planning.count_closings.Goals as goal
use Rattle.trie_levels.proofs.span_planning.count_closings.Goals.{then-closes-gt0, else-closes-gt0}

abbrev no_span : Span
no_span = record { leaf = 0; closes = 0; len = 0 }

abbrev test : ℕ → Span → Bool
test n s = s.closes == n + 1

-- the counts, with the spans from i on to come
abbrev Counted : ℕ → List Span → ℕ → List ℕ → Type 0
Counted levels spans i counts = (length counts ≡ levels) × ((n : ℕ) → n < levels → get_or counts n 0 + count_by (test n) (drop i spans) ≡ count_by (test n) spans)

pub overflow_add-index_mut : goal.overflow_add-index_mut
overflow_add-index_mut c =
    let i = c.loop-i.i in
    let counts = c.loop-i.counts.items in
    let spans = c.args.spans.now in
    let within : i < length spans = omega arith in
    let fits = c.requires i no_span within in
    let at = c.from-closes.result - 1 in
    let one : (get_or spans i no_span).closes ≡ at + 1 = omega (arith, c.from-closes.ensures, c.if-closes-gt0.true) in
    let inside : at < c.args.levels = omega (arith, c.from-closes.ensures, c.if-closes-gt0.true, fits.2) in
    let value = c.index_mut.ensures.value ∙ get_or_default_zero counts at c.index_mut.result.now (omega (arith, inside, c.loop-i.invariant.0)) in
    omega (arith, counts_fit test spans i no_span counts c.args.levels at c.index_mut.result.now within inside (eq-eqb (get_or spans i no_span).closes (at + 1) one) value c.loop-i.invariant.1)

pub loop-i-preserved : goal.loop-i-preserved
loop-i-preserved c =
    let i = c.loop-i.i in
    let counts = c.loop-i.counts.items in
    let spans = c.args.spans.now in
    let within : i < length spans = omega arith in
    let fits = c.requires i no_span within in
    elim c.if-closes-gt0.branch [
      | then-closes-gt0 w ↦
          let at = c.from-closes.result - 1 in
          let one : (get_or spans i no_span).closes ≡ at + 1 = omega (arith, c.from-closes.ensures, w.if-closes-gt0.true) in
          let inside : at < c.args.levels = omega (arith, c.from-closes.ensures, w.if-closes-gt0.true, fits.2) in
          let value = w.index_mut.ensures.value ∙ get_or_default_zero counts at w.index_mut.result.now (omega (arith, inside, c.loop-i.invariant.0)) in
          subst (Counted c.args.levels spans (i + 1)) (λ j. (sym w.counts-is j).items) (
            length-set counts at (w.index_mut.result.now + 1) ∙ c.loop-i.invariant.0,
            counted test spans i no_span counts c.args.levels at w.index_mut.result.now within c.loop-i.invariant.0 inside (λ n. one_less (get_or spans i no_span).closes at n one) value c.loop-i.invariant.1,
          )
      | else-closes-gt0 w ↦
          subst (Counted c.args.levels spans (i + 1)) (λ j. (sym w.counts-is j).items) (
            c.loop-i.invariant.0,
            not_counted test spans i no_span counts c.args.levels within
                (λ n. ne_eqb (get_or spans i no_span).closes (n + 1) (λ e. omega (arith, e, c.from-closes.ensures, w.if-closes-gt0.false))) c.loop-i.invariant.1,
          )
    ]

pub returns : goal.returns
returns c = all_counted test c.args.spans.now c.loop-i.i c.loop-i.counts.items c.args.levels (omega arith) c.loop-i.invariant.0 c.loop-i.invariant.1
