use Rattle.std.proofs.Common.{◌≡◌, ◌<◌, ◌+◌, ◌^◌, drop}
use Rattle.std.specs.Prelude.{map, sum_by, vec_items}
use Rattle.block_model.proofs.Bounds.{row_length}
use Rattle.plain_blocks.proofs.counts.index_length.Given as goal

-- what was added and the blocks that are left make all bytes
abbrev pub invariant-loop-block : goal.invariant-loop-block
invariant-loop-block l =
    (l.bytes + sum_by row_length (map vec_items (drop l.block-index l.block-items)) ≡ l.initial.bytes + sum_by row_length (map vec_items l.block-items))
    × (l.initial.bytes + sum_by row_length (map vec_items l.block-items) < 2 ^ 60)
