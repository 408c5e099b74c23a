use Rattle.std.proofs.Common.{◌≡◌, ◌++◌, drop}
use Rattle.map_writer.specs.Orders.{ended_on}
use Rattle.map_writer.proofs.Orders.{numbers}
use Rattle.map_writer.proofs.order.add_ended.Given as goal

-- the numbers so far, and those of the paths to come
abbrev pub invariant-loop-i : goal.invariant-loop-i
invariant-loop-i l =
    l.order.items ++ numbers (ended_on l.level (drop l.i l.spans)) ≡ l.initial.order.items ++ numbers (ended_on l.level l.spans)
