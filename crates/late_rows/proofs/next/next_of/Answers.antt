use Rattle.std.proofs.Common.{arith}
use Rattle.std.specs.Option.{option_map}
use Rattle.std.proofs.lemmas.List.{length-map}
use Rattle.late_rows.proofs.Sooner.{next_of_all}
use Rattle.late_rows.proofs.next.next_of.Goals as goal

pub returns-clause-next : goal.returns-clause-next
returns-clause-next c =
    next_of_all c.loop-at.at _ c.loop-at.next (omega (arith, c.loop-at-test.false, length-map c.args.asleep.now (λ o. option_map (λ key. key.items) o))) c.loop-at.invariant.next
