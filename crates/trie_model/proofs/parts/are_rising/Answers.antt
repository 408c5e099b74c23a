use Rattle.std.proofs.Common.{◌≡◌, ◌<◌, ◌==◌, ℕ, false, IsTrue, inl, inr, length, arith, refl, subst, sym}
use Rattle.std.proofs.lemmas.Bool.{eqb-false}
use Rattle.std.proofs.lemmas.List.{take_all}
use Rattle.trie_model.proofs.Rising.{Rising, rising_more}
use Rattle.trie_model.proofs.parts.are_rising.Goals as goal

some_of : (n : ℕ) → false ≡ (n == 0) → 0 < n
some_of n e = let ne = eqb-false n 0 (sym e) in omega (arith, ne)

pub loop-i-preserved : goal.loop-i-preserved
loop-i-preserved c = rising_more c.args.branches.now c.loop-i.i _ (omega (arith, c.loop-i.auto.i)) c.loop-i-test.true c.if-branches-i.false c.loop-i.invariant

pub returns : goal.returns
returns c = (
  λ _. record { some = some_of (length c.args.branches.now) c.if-is_empty.ensures; rising = subst Rising (take_all c.loop-i.i c.args.branches.now c.loop-i-test.false) c.loop-i.invariant },
  λ _. refl,
)
