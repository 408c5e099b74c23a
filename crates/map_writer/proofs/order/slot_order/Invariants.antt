use Rattle.std.proofs.Common.{◌≡◌, ◌≤◌, ℕ}
use Rattle.map_writer.specs.Orders.{ended_by, ended_on}
use Rattle.map_writer.proofs.Orders.{numbers}
use Rattle.map_writer.proofs.order.slot_order.Given as goal

-- the numbers of the levels passed, and the paths of the others
abbrev pub invariant-loop-level : goal.invariant-loop-level
invariant-loop-level l = (l.order.items ≡ numbers (ended_by l.level l.spans)) × ((n : ℕ) → l.level ≤ n → ended_on n l.left.items ≡ ended_on n l.spans)
