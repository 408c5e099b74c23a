use Rattle.std.proofs.Common.{subst, arith}
use Rattle.std.specs.List.{AllByRecursion}
use Rattle.std.proofs.lemmas.List.{take_all}
use Rattle.range_model.specs.Sources.{BeginsAtOne}
use Rattle.table_file.proofs.RangeStarts.{begin_more}
use Rattle.table_file.proofs.builder.all_begin.Goals as goal

pub loop-i-init : goal.loop-i-init
loop-i-init c = λ entries are. tt

pub loop-i-preserved : goal.loop-i-preserved
loop-i-preserved c = λ entries are.
    let one = c.has_key.ensures entries c.if-not-has_key.false are in
    begin_more entries c.args.ranges.now.ranges c.loop-i.i (omega (arith, c.loop-i-test.true, c.len-i-end.ensures.len)) (c.loop-i.invariant entries are)
    (subst (BeginsAtOne entries) c.get.ensures one)

pub returns : goal.returns
returns c = λ entries yes are.
    subst (AllByRecursion (BeginsAtOne entries)) (take_all c.loop-i.i c.args.ranges.now.ranges (omega (arith, c.loop-i-test.false, c.len-i-end.ensures.len))) (c.loop-i.invariant entries are)
