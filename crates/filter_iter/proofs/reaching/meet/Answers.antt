use Rattle.std.proofs.Common.{◌≡◌, ℕ, arith, subst}
use Rattle.filter_iter.proofs.Bounds.{at_last, at_root, have_met, not_so}
use Rattle.filter_iter.proofs.Steps.{at_bottom}
use Rattle.filter_iter.specs.Borders.{IsDescent}
use Rattle.filter_model.specs.Trie.{height}
use Rattle.filter_iter.proofs.reaching.meet.Goals as goal

pub loop-level-init : goal.loop-level-init
loop-level-init g c = (at_root c.args.trie.now.hash_bits c.args.trie.now.real_bits c.args.trie.now.leaves c.height.ensures.stands.valid c.args.lo.now c.root_descent-low.result c.root_descent-low.ensures.node c.root_descent-low.ensures.sum c.root_descent-low.ensures.leads, at_root c.args.trie.now.hash_bits c.args.trie.now.real_bits c.args.trie.now.leaves c.height.ensures.stands.valid c.args.hi.now c.root_descent-high.result c.root_descent-high.ensures.node c.root_descent-high.ensures.sum c.root_descent-high.ensures.leads)

pub returns-clause-met : goal.returns-clause-met
returns-clause-met g c =
    let deep : c.loop-level.level ≡ height c.args.trie.now.leaves = omega (arith, c.loop-level-test.false, c.from-height.ensures, c.height.ensures.height, c.loop-level.invariant.0.border.high) in
    let low = subst (λ (n : ℕ). IsDescent c.args.trie.now.leaves c.args.lo.now n c.loop-level.low) deep c.loop-level.invariant.0 in
    let high = subst (λ (n : ℕ). IsDescent c.args.trie.now.leaves c.args.hi.now n c.loop-level.high) deep c.loop-level.invariant.1 in
    have_met c.args.trie.now.hash_bits c.args.trie.now.real_bits c.args.trie.now.leaves c.height.ensures.stands.valid (height c.args.trie.now.leaves) c.args.lo.now c.args.hi.now c.loop-level.low c.loop-level.high low.border high.border (at_bottom c.args.trie.now.hash_bits c.args.trie.now.real_bits c.args.trie.now.leaves c.height.ensures.stands.valid c.loop-level.low.border c.loop-level.high.border low.border high.border)
    (at_last c.args.trie.now.hash_bits c.args.trie.now.real_bits c.args.trie.now.leaves c.height.ensures.stands.valid c.args.lo.now c.loop-level.low low) (at_last c.args.trie.now.hash_bits c.args.trie.now.real_bits c.args.trie.now.leaves c.height.ensures.stands.valid c.args.hi.now c.loop-level.high high)

pub returns-then-not-high-clause-met : goal.returns-then-not-high-clause-met
returns-then-not-high-clause-met g c =
    let low = c.loop-level.invariant.0 in
    let high = c.loop-level.invariant.1 in
    have_met c.args.trie.now.hash_bits c.args.trie.now.real_bits c.args.trie.now.leaves c.height.ensures.stands.valid c.loop-level.level c.args.lo.now c.args.hi.now c.loop-level.low c.loop-level.high low.border high.border c.if-low-high.true (low.left (not_so c.loop-level.low.leads c.if-not-low.true)) (high.left (not_so c.loop-level.high.leads c.if-not-high.true))
