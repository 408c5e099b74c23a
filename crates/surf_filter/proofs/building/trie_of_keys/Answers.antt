use Rattle.std.proofs.Common.{◌≡◌, ◌∙◌, ℕ, ap, arith, subst, sym}
use Rattle.std.proofs.lemmas.Result.{IfOk-weaker}
use Rattle.filter_api.specs.Spellings.{MayStand}
use Rattle.filter_model.specs.Leaves.{Filter, leaves_of}
use Rattle.filter_model.specs.Trie.{cutoff_of}
use Rattle.surf_filter.proofs.Cutoffs.{are_spans, built_stands, counted_low}
use Rattle.surf_filter.specs.Cutoffs.{rule_cutoff}
use Rattle.surf_filter.proofs.building.trie_of_keys.Goals as goal

pub plan_spans-requires : goal.plan_spans-requires
plan_spans-requires c =
    let h = c.args.settings.hash_bits in
    let n = c.args.settings.real_bits in
    (leaves_of h n c.args.keys.now, are_spans h n c.args.keys.now c.as_slice.result.now c.requires.settings.real_bits c.requires.keys (c.as_slice.ensures.value ∙ c.in_ok-spans.ensures h n))

pub build-requires-clause-spans : goal.build-requires-clause-spans
build-requires-clause-spans c = c.in_ok-spans.ensures c.args.settings.hash_bits c.args.settings.real_bits

pub build-requires-clause-nodes : goal.build-requires-clause-nodes
build-requires-clause-nodes c =
    let h = c.args.settings.hash_bits in
    let n = c.args.settings.real_bits in
    let spans = are_spans h n c.args.keys.now c.as_slice.result.now c.requires.settings.real_bits c.requires.keys (c.as_slice.ensures.value ∙ c.in_ok-spans.ensures h n) in
    c.in_ok-levels.ensures.nodes (leaves_of h n c.args.keys.now) spans

pub build-requires-clause-labels : goal.build-requires-clause-labels
build-requires-clause-labels c =
    let h = c.args.settings.hash_bits in
    let n = c.args.settings.real_bits in
    let spans = are_spans h n c.args.keys.now c.as_slice.result.now c.requires.settings.real_bits c.requires.keys (c.as_slice.ensures.value ∙ c.in_ok-spans.ensures h n) in
    c.in_ok-levels.ensures.labels (leaves_of h n c.args.keys.now) spans

pub build-requires-clause-cutoff : goal.build-requires-clause-cutoff
build-requires-clause-cutoff c =
    let h = c.args.settings.hash_bits in
    let n = c.args.settings.real_bits in
    let ls = leaves_of h n c.args.keys.now in
    let spans = are_spans h n c.args.keys.now c.as_slice.result.now c.requires.settings.real_bits c.requires.keys (c.as_slice.ensures.value ∙ c.in_ok-spans.ensures h n) in
    omega (arith, c.cutoff-dense.ensures, counted_low c.args.settings.ratio ls c.in_ok-levels.levels.nodes c.in_ok-levels.levels.labels (c.in_ok-levels.ensures.nodes ls spans))

pub returns-clause-trie : goal.returns-clause-trie
returns-clause-trie c =
    let h = c.args.settings.hash_bits in
    let n = c.args.settings.real_bits in
    let ls = leaves_of h n c.args.keys.now in
    let spans = are_spans h n c.args.keys.now c.as_slice.result.now c.requires.settings.real_bits c.requires.keys (c.as_slice.ensures.value ∙ c.in_ok-spans.ensures h n) in
    let rule : c.cutoff-dense.result ≡ rule_cutoff c.args.settings.ratio ls = c.cutoff-dense.ensures ∙ (λ j. cutoff_of c.args.settings.ratio (c.in_ok-levels.ensures.nodes ls spans j) (c.in_ok-levels.ensures.labels ls spans j)) in
    let with_cutoff : ℕ → Filter = λ k. record { hash_bits = h; real_bits = n; cutoff = k; leaves = ls } in
    IfOk-weaker c.build.result _ _ (λ t e. e ∙ ap with_cutoff rule) c.build.ensures

pub returns-clause-stands : goal.returns-clause-stands
returns-clause-stands c =
    let h = c.args.settings.hash_bits in
    let n = c.args.settings.real_bits in
    let ls = leaves_of h n c.args.keys.now in
    let spans = are_spans h n c.args.keys.now c.as_slice.result.now c.requires.settings.real_bits c.requires.keys (c.as_slice.ensures.value ∙ c.in_ok-spans.ensures h n) in
    let rule : c.cutoff-dense.result ≡ rule_cutoff c.args.settings.ratio ls = c.cutoff-dense.ensures ∙ (λ j. cutoff_of c.args.settings.ratio (c.in_ok-levels.ensures.nodes ls spans j) (c.in_ok-levels.ensures.labels ls spans j)) in
    let with_cutoff : ℕ → Filter = λ k. record { hash_bits = h; real_bits = n; cutoff = k; leaves = ls } in
    let stands = built_stands h n c.args.settings.ratio c.args.keys.now c.requires.settings.hash_bits c.requires.settings.real_bits c.requires.keys in
    IfOk-weaker c.build.result _ _ (λ t e. subst (λ (i : Filter). MayStand i.hash_bits i.real_bits i.cutoff i.leaves) (sym (e ∙ ap with_cutoff rule)) stands) c.build.ensures
