use Rattle.std.proofs.Common.{◌≡◌}
use Rattle.std.specs.Prelude.{vec_capacity}
use Rattle.range_model.specs.Ranges.{range_of}
use Rattle.mem_table.proofs.Cleared.{Taken}
use Rattle.mem_table.proofs.clearing.take_out.Given as goal

abbrev pub invariant-loop-i : goal.invariant-loop-i
invariant-loop-i l = record {
  taken : Taken l.entries (range_of l.lo l.hi) l.fn.chunks.items l.chunks.items l.i l.kept;
  capacity : vec_capacity l.chunks ≡ vec_capacity l.fn.chunks;
}
