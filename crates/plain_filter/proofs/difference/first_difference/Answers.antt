use Rattle.std.proofs.Common.{◌≡◌, arith, sym, subst, Some, ap, ◌∙◌, ℕ}
use Rattle.std.proofs.lemmas.Bool.{false≢true}
use Rattle.plain_filter.proofs.Differences.{alike_more, apart_at, ended_at, ended_both}
use Rattle.plain_filter.proofs.difference.first_difference.Goals as goal

pub returns-then-not-alike : goal.returns-then-not-alike
returns-then-not-alike c = apart_at c.args.leaves.now c.args.others.now c.loop-i.i (omega (arith, c.loop-i-test.true, c.len-i-end.ensures)) c.loop-i.invariant.0 c.loop-i.invariant.1 (λ s. false≢true (sym c.if-not-alike.true ∙ c.agree_at-alike.ensures.1 s))

pub loop-i-preserved : goal.loop-i-preserved
loop-i-preserved c = alike_more c.args.leaves.now c.args.others.now c.loop-i.i (omega (arith, c.loop-i-test.true, c.len-i-end.ensures)) c.loop-i.invariant.1 (c.agree_at-alike.ensures.0 c.if-not-alike.false)

pub returns-then-len : goal.returns-then-len
returns-then-len c = ap (λ (k : ℕ). Some k) c.len-then-len.ensures ∙ ended_at c.args.leaves.now c.args.others.now c.loop-i.i (omega (arith, c.loop-i-test.false, c.loop-i.auto.i-end, c.len-i-end.ensures)) (omega (arith, c.if-len.true, c.len.ensures, c.len-2.ensures)) c.loop-i.invariant.1

pub returns-else-len : goal.returns-else-len
returns-else-len c = ended_both c.args.leaves.now c.args.others.now c.loop-i.i (omega (arith, c.loop-i-test.false, c.loop-i.auto.i-end, c.len-i-end.ensures)) c.loop-i.invariant.0 (omega (arith, c.if-len.false, c.len.ensures, c.len-2.ensures)) c.loop-i.invariant.1
