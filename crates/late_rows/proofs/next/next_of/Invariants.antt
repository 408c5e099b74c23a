use Rattle.std.proofs.Common.{◌<◌, length, map}
use Rattle.std.specs.Prelude.{IfSome}
use Rattle.std.specs.Option.{option_map}
use Rattle.late_rows.specs.Late.{IsNextOf}
use Rattle.late_rows.proofs.next.next_of.Given as goal

-- of the walks so far
abbrev pub invariant-loop-at : goal.invariant-loop-at
invariant-loop-at l = record {
  there : IfSome l.next (λ other. other < length l.asleep);
  next : IsNextOf l.at (map (λ o. option_map (λ key. key.items) o) l.asleep) l.next;
}
