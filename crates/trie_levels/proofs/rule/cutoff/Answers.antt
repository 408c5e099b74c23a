use Rattle.std.proofs.Common.{◌≡◌, ◌<◌, ◌≤◌, ◌+◌, ◌-◌, ◌*◌, length, take, drop, slice_index, sum, sym, ap, subst, arith, inl, inr, ◌∙◌}
use Rattle.std.proofs.lemmas.Bool.{cases_lt, false≢true}
use Rattle.filter_model.specs.Trie.{cutoff_from}
use Rattle.trie_levels.proofs.Steps.{cutoff-below, cutoff-here, sum-drop_less, sum-take_less}
use Rattle.trie_levels.proofs.rule.cutoff.Goals as goal

pub returns-then-is_dense_enough : goal.returns-then-is_dense_enough
returns-then-is_dense_enough c =
    let nodes = c.args.levels.now.nodes in
    let labels = c.args.levels.now.labels in
    let ratio = c.args.ratio in
    let left = length nodes - c.loop-passed.passed in
    let some : 0 < left = omega (arith, c.height-height.ensures.nodes) in
    let fits : 513 * c.loop-passed.below * ratio ≤ 10 * c.loop-passed.from = c.is_dense_enough.ensures.0 c.if-is_dense_enough.true in
    let fits_below : 513 * sum (take left nodes) * ratio ≤ 10 * c.loop-passed.from = subst (λ n. 513 * n * ratio ≤ 10 * c.loop-passed.from) c.loop-passed.invariant.1 fits in
    let fits_both : 513 * sum (take left nodes) * ratio ≤ 10 * sum (drop left labels) = subst (λ n. 513 * sum (take left nodes) * ratio ≤ 10 * n) c.loop-passed.invariant.2 fits_below in
    ap (λ n. n - c.loop-passed.passed) c.height-height.ensures.nodes ∙ sym (c.loop-passed.invariant.0 ∙ cutoff-here left ratio nodes labels some fits_both)

pub loop-passed-preserved : goal.loop-passed-preserved
loop-passed-preserved c =
    let nodes = c.args.levels.now.nodes in
    let labels = c.args.levels.now.labels in
    let ratio = c.args.ratio in
    let passed = c.loop-passed.passed in
    let left = length nodes - passed in
    let tall = c.height-height.ensures.nodes in
    let wide = c.height-height.ensures.labels in
    let some : 0 < left = omega (arith, tall) in
    let less : left - 1 ≡ length nodes - (passed + 1) = omega arith in
    let level : c.height-height.result - passed - 1 ≡ left - 1 = omega (arith, tall) in
    let over : 10 * c.loop-passed.from < 513 * c.loop-passed.below * ratio = elim (cases_lt (10 * c.loop-passed.from) (513 * c.loop-passed.below * ratio)) [
      | inl more ↦ more
      | inr fits ↦ absurd (false≢true (sym c.if-is_dense_enough.false ∙ c.is_dense_enough.ensures.1 fits))
    ] in
    let over_below : 10 * c.loop-passed.from < 513 * sum (take left nodes) * ratio = subst (λ n. 10 * c.loop-passed.from < 513 * n * ratio) c.loop-passed.invariant.1 over in
    let over_both : 10 * sum (drop left labels) < 513 * sum (take left nodes) * ratio = subst (λ n. 10 * n < 513 * sum (take left nodes) * ratio) c.loop-passed.invariant.2 over_below in
    let step = cutoff-below left ratio nodes labels some over_both in
    let node : c.from-below.result ≡ slice_index nodes (left - 1) = c.from-below.ensures ∙ c.nodes.ensures ∙ ap (slice_index nodes) level in
    let label : c.from-from.result ≡ slice_index labels (left - 1) = c.from-from.ensures ∙ c.labels.ensures ∙ ap (slice_index labels) level in
    let taken = sum-take_less left nodes some (omega arith) in
    let dropped = sum-drop_less left labels some (omega (arith, tall, wide)) in
    let below : c.loop-passed.below - c.from-below.result ≡ sum (take (left - 1) nodes) = omega (arith, node, taken, c.loop-passed.invariant.1) in
    let from : c.loop-passed.from + c.from-from.result ≡ sum (drop (left - 1) labels) = omega (arith, label, dropped, c.loop-passed.invariant.2) in (
      c.loop-passed.invariant.0 ∙ step ∙ ap (λ n. cutoff_from n ratio nodes labels) less,
      below ∙ ap (λ n. sum (take n nodes)) less,
      from ∙ ap (λ n. sum (drop n labels)) less,
      omega (arith, c.loop-passed.invariant.3),
      omega (arith, c.loop-passed.invariant.4),
    )
