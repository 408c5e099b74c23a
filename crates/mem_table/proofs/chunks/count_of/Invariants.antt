use Rattle.std.proofs.Common.{◌≡◌, ◌+◌, drop, length}
use Rattle.mem_table.specs.Chunks.{flat}
use Rattle.mem_table.proofs.chunks.count_of.Given as goal

-- the places so far and those of the chunks that are left
abbrev pub invariant-loop-chunk : goal.invariant-loop-chunk
invariant-loop-chunk l = l.count + length (flat (drop l.chunk-index l.chunks)) ≡ length (flat l.chunks)
