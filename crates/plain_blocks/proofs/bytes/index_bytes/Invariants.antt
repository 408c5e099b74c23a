use Rattle.std.proofs.Common.{◌≡◌, ◌++◌, List, drop}
use Rattle.std.specs.Prelude.{flat_map, map, vec_items}
use Rattle.std.specs.List.{AllByRecursion}
use Rattle.entry_model.specs.Entries.{Entry}
use Rattle.block_model.specs.Block.{AreEntries}
use Rattle.block_model.specs.Index.{index_row_bytes, index_row_of}
use Rattle.plain_blocks.proofs.bytes.index_bytes.Given as goal

-- what is written and the blocks that are left make all blocks
abbrev pub invariant-loop-block : goal.invariant-loop-block
invariant-loop-block l =
    (l.out.items ++ flat_map (λ (b : List Entry). index_row_bytes (index_row_of b)) (map vec_items (drop l.block-index l.block-items))
    ≡ l.initial.out.items ++ flat_map (λ (b : List Entry). index_row_bytes (index_row_of b)) (map vec_items l.block-items))
    × AllByRecursion AreEntries (map vec_items (drop l.block-index l.block-items))
