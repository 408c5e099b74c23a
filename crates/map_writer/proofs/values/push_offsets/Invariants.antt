use Rattle.std.proofs.Common.{◌≡◌, ◌≤◌, ◌++◌, ◌*◌, drop}
use Rattle.map_file_model.specs.Body.{ends_from, offsets_of, words}
use Rattle.map_writer.specs.Orders.{values_at}
use Rattle.map_writer.proofs.Growing.{IsKept}
use Rattle.map_writer.proofs.values.push_offsets.Given as goal

-- the offsets so far, and those of the values to come
abbrev pub invariant-loop-i : goal.invariant-loop-i
invariant-loop-i l =
    (l.out.items ++ words (ends_from l.end (drop l.i (values_at l.values l.order))) ≡ l.fn.out.items ++ words (offsets_of (values_at l.values l.order)))
    × IsKept l.fn.out.items l.out.items
    × (l.end ≤ 65536 * l.i)
