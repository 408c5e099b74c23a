use Rattle.std.proofs.Common.{sym, subst, arith}
use Rattle.store_check.specs.Orders.{IsSoundAt}
use Rattle.store_check.proofs.check.Check.at.Goals as goal

pub invariant_of-result : goal.invariant_of-result
invariant_of-result c = record { placed = omega arith; sound = λ m same. subst (IsSoundAt m) (sym c.new.ensures) (c.requires.sound m same) }
