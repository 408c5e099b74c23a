use Rattle.std.proofs.Common.{◌≡◌, ◌++◌, drop}
use Rattle.std.specs.Prelude.{flat_map, map, vec_items}
use Rattle.std.specs.List.{AllByRecursion}
use Rattle.block_model.specs.Block.{AreEntries, block_bytes}
use Rattle.plain_blocks.proofs.bytes.data_bytes.Given as goal

-- what is written and the blocks that are left make all blocks
abbrev pub invariant-loop-block : goal.invariant-loop-block
invariant-loop-block l =
    (l.out.items ++ flat_map block_bytes (map vec_items (drop l.block-index l.block-items))
    ≡ l.initial.out.items ++ flat_map block_bytes (map vec_items l.block-items))
    × AllByRecursion AreEntries (map vec_items (drop l.block-index l.block-items))
