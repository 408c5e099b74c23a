use Rattle.std.proofs.Common.{◌≡◌, ◌++◌, drop}
use Rattle.std.specs.List.{concat}
use Rattle.map_writer.specs.Orders.{values_at}
use Rattle.map_writer.proofs.Growing.{IsKept}
use Rattle.map_writer.proofs.values.push_values.Given as goal

-- the values so far, and those to come
abbrev pub invariant-loop-i : goal.invariant-loop-i
invariant-loop-i l =
    (l.out.items ++ concat (drop l.i (values_at l.values l.order)) ≡ l.initial.out.items ++ concat (values_at l.values l.order)) × IsKept l.initial.out.items l.out.items
