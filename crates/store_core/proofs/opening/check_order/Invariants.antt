use Rattle.store_core.proofs.OpeningOrder.{StoodTo}
use Rattle.store_core.proofs.opening.check_order.Given as goal

-- the fault of all is that of those from one table before on
abbrev pub invariant-loop-i : goal.invariant-loop-i
invariant-loop-i g l = StoodTo l.tables l.i
