use Rattle.std.proofs.Common.{◌≡◌, ℕ, arith, subst}
use Rattle.filter_iter.proofs.Bounds.{at_last, at_root, not_so}
use Rattle.filter_iter.specs.Borders.{HasLeft, IsBorder, IsDescent}
use Rattle.filter_model.specs.Trie.{height}
use Rattle.filter_iter.proofs.reaching.follow.Goals as goal

pub loop-level-init : goal.loop-level-init
loop-level-init g c = at_root c.args.trie.now.hash_bits c.args.trie.now.real_bits c.args.trie.now.leaves c.height.ensures.stands.valid c.args.bound.now c.root_descent-descent.result c.root_descent-descent.ensures.node c.root_descent-descent.ensures.sum c.root_descent-descent.ensures.leads

pub returns-then-not-descent-clause-border : goal.returns-then-not-descent-clause-border
returns-then-not-descent-clause-border g c = c.loop-level.invariant.border

pub returns-then-not-descent-clause-left : goal.returns-then-not-descent-clause-left
returns-then-not-descent-clause-left g c = c.loop-level.invariant.left (not_so c.loop-level.descent.leads c.if-not-descent.true)

pub returns-clause-border : goal.returns-clause-border
returns-clause-border g c =
    let deep : c.loop-level.level ≡ c.from-height.result = omega (arith, c.loop-level-test.false, c.from-height.ensures, c.height.ensures.height, c.loop-level.invariant.border.high) in
    subst (λ (n : ℕ). IsBorder c.args.trie.now.leaves n c.loop-level.descent.border) deep c.loop-level.invariant.border

pub returns-clause-left : goal.returns-clause-left
returns-clause-left g c =
    let deep : c.loop-level.level ≡ height c.args.trie.now.leaves = omega (arith, c.loop-level-test.false, c.from-height.ensures, c.height.ensures.height, c.loop-level.invariant.border.high) in
    let last : height c.args.trie.now.leaves ≡ c.from-height.result = omega (arith, c.from-height.ensures, c.height.ensures.height) in
    let is = subst (λ (n : ℕ). IsDescent c.args.trie.now.leaves c.args.bound.now n c.loop-level.descent) deep c.loop-level.invariant in
    subst (λ (n : ℕ). HasLeft c.args.trie.now.leaves c.args.bound.now n c.loop-level.descent) last (at_last c.args.trie.now.hash_bits c.args.trie.now.real_bits c.args.trie.now.leaves c.height.ensures.stands.valid c.args.bound.now c.loop-level.descent is)
