use Rattle.std.proofs.Common.{◌+◌, ◌*◌, ◌∙◌, sym, arith}
use Rattle.store_core.proofs.OpeningOrder.{stood_broken, stood_end, stood_first, stood_next}
use Rattle.store_core.proofs.opening.check_order.Goals as goal

pub loop-i-init : goal.loop-i-init
loop-i-init g c = stood_first c.args.tables.now

pub returns-then-not-may_follow : goal.returns-then-not-may_follow
returns-then-not-may_follow g c =
    stood_broken c.args.tables.now c.loop-i.i c.index-tables-i.result c.index-tables-i-in-loop-i.result c.loop-i.auto.i c.loop-i-test.true c.index-tables-i.is c.index-tables-i-in-loop-i.is
    c.args.slot (131072 * c.from.result + 8 + (64 + 64 * c.loop-i.i)) (sym c.may_follow.ensures ∙ c.if-not-may_follow.true) c.loop-i.invariant (omega (arith, c.from.ensures, c.loop-i.auto.i))

pub loop-i-preserved : goal.loop-i-preserved
loop-i-preserved g c =
    stood_next c.args.tables.now c.loop-i.i c.index-tables-i.result c.index-tables-i-in-loop-i.result c.loop-i.auto.i c.loop-i-test.true c.index-tables-i.is c.index-tables-i-in-loop-i.is
    (sym c.may_follow.ensures ∙ c.if-not-may_follow.false) c.loop-i.invariant

pub returns : goal.returns
returns g c = stood_end c.args.tables.now c.loop-i.i c.loop-i-test.false c.loop-i.invariant
