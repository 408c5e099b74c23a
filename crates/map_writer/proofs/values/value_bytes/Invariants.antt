use Rattle.std.proofs.Common.{◌≡◌, ◌≤◌, ◌+◌, ◌*◌, length, drop}
use Rattle.std.specs.List.{concat}
use Rattle.map_writer.specs.Orders.{values_at}
use Rattle.map_writer.proofs.values.value_bytes.Given as goal

-- the bytes so far, and those of the values to come
abbrev pub invariant-loop-i : goal.invariant-loop-i
invariant-loop-i l =
    (l.bytes + length (concat (drop l.i (values_at l.values l.order))) ≡ length (concat (values_at l.values l.order))) × (l.bytes ≤ 65536 * l.i)
