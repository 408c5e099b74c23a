use Rattle.std.proofs.Common.{◌≡◌}
use Rattle.std.specs.List.{range_with_len}
use Rattle.mem_table.specs.Chunks.{flat, NoneEmpty}
use Rattle.mem_table.proofs.filling.in_a_row.Given as goal

-- the places so far are there
abbrev pub invariant-loop-place : goal.invariant-loop-place
invariant-loop-place l = (flat l.chunks.items ≡ range_with_len 0 l.place) × NoneEmpty l.chunks.items
