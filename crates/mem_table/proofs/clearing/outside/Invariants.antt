use Rattle.std.proofs.Common.{◌≡◌, ◌≤◌, ◌++◌, drop, length}
use Rattle.mem_table.specs.Chunks.{places_outside}
use Rattle.range_model.specs.Ranges.{range_of}
use Rattle.mem_table.proofs.clearing.outside.Given as goal

-- those left so far and what is left of the others
abbrev pub invariant-loop-place : goal.invariant-loop-place
invariant-loop-place l = record {
  all : l.left.items ++ places_outside l.entries (range_of l.lo l.hi) (drop l.place-index l.chunk.items) ≡ places_outside l.entries (range_of l.lo l.hi) l.chunk.items;
  few : length l.left.items ≤ l.place-index;
}
