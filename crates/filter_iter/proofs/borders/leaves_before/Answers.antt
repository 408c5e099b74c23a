use Rattle.std.proofs.Common.{◌≡◌, ℕ, arith, ap, subst, ◌∙◌}
use Rattle.filter_iter.proofs.Steps.{below_border, last_border, rest_counted, rest_small, room, starts_before}
use Rattle.filter_iter.specs.Borders.{IsBorder, leaves_at}
use Rattle.filter_model.specs.Trie.{height}
use Rattle.filter_trie.specs.Places.{trie}
use Rattle.trie_model.specs.Halves.{begin_of}
use Rattle.filter_iter.proofs.borders.leaves_before.Goals as goal

pub overflow_add-result : goal.overflow_add-result
overflow_add-result g c =
    let few = c.requires.stands.valid.few in
    let small = rest_small c.args.trie.now.hash_bits c.args.trie.now.real_bits c.args.trie.now.leaves c.requires.stands.valid c.loop-at.at c.loop-at.border c.loop-at.invariant.0 (omega (arith, c.loop-at.invariant.1, c.requires.few)) in
    record { fits = omega (arith, few, small, c.in-Some.ensures) }

pub overflow_sub-result : goal.overflow_sub-result
overflow_sub-result g c =
    omega (arith, c.level_starts.ensures, c.in-Some.ensures, rest_counted c.args.trie.now.hash_bits c.args.trie.now.real_bits c.args.trie.now.leaves c.requires.stands.valid c.loop-at.at c.loop-at.border c.loop-at.invariant.0)

pub returns-in-Some : goal.returns-in-Some
returns-in-Some g c =
    omega (
      arith,
      c.level_starts.ensures,
      c.in-Some.ensures,
      c.loop-at.invariant.1,
      rest_counted c.args.trie.now.hash_bits c.args.trie.now.real_bits c.args.trie.now.leaves c.requires.stands.valid c.loop-at.at c.loop-at.border c.loop-at.invariant.0,
    )

pub below-border-requires-clause-room : goal.below-border-requires-clause-room
below-border-requires-clause-room g c =
    room c.args.trie.now.hash_bits c.args.trie.now.real_bits c.args.trie.now.leaves c.requires.stands.valid c.loop-at.at (begin_of (trie c.args.trie.now) c.loop-at.border.node) c.loop-at.border c.loop-at.invariant.0 (omega (arith, c.loop-at.invariant.1, c.requires.few))

pub loop-at-preserved : goal.loop-at-preserved
loop-at-preserved g c =
    let b = below_border c.args.trie.now.hash_bits c.args.trie.now.real_bits c.args.trie.now.leaves c.requires.stands.valid c.loop-at.at c.loop-at.border c.below-border.result c.loop-at.invariant.0 (omega (arith, c.loop-at-test.true, c.requires.height)) c.below-border.ensures.node c.below-border.ensures.sum in
    (b.0, b.1 ∙ c.loop-at.invariant.1)

pub overflow_sub-result-2 : goal.overflow_sub-result-2
overflow_sub-result-2 g c =
    let last : c.loop-at.at ≡ height c.args.trie.now.leaves = omega (arith, c.loop-at-test.false, c.requires.height, c.loop-at.invariant.0.high) in
    omega (arith, c.level_starts-2.ensures, starts_before c.args.trie.now.hash_bits c.args.trie.now.real_bits c.args.trie.now.leaves c.requires.stands.valid c.loop-at.border (subst (λ (n : ℕ). IsBorder c.args.trie.now.leaves n c.loop-at.border) last c.loop-at.invariant.0))

pub returns : goal.returns
returns g c =
    let last : c.loop-at.at ≡ height c.args.trie.now.leaves = omega (arith, c.loop-at-test.false, c.requires.height, c.loop-at.invariant.0.high) in
    omega (
      arith,
      c.level_starts-2.ensures,
      last_border c.args.trie.now.hash_bits c.args.trie.now.real_bits c.args.trie.now.leaves c.requires.stands.valid c.loop-at.border (subst (λ (n : ℕ). IsBorder c.args.trie.now.leaves n c.loop-at.border) last c.loop-at.invariant.0),
      ap (λ (n : ℕ). leaves_at c.args.trie.now.leaves n c.loop-at.border) last,
      c.loop-at.invariant.1,
    )
