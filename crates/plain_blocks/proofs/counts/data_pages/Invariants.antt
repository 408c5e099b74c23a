use Rattle.std.proofs.Common.{◌≡◌, ◌<◌, ◌+◌, ◌^◌, drop}
use Rattle.std.specs.Prelude.{map, sum_by, vec_items}
use Rattle.std.specs.List.{AllByRecursion}
use Rattle.block_model.specs.Block.{AreEntries}
use Rattle.block_model.specs.Pages.{block_pages}
use Rattle.plain_blocks.proofs.counts.data_pages.Given as goal

-- what was added and the blocks that are left make all pages
abbrev pub invariant-loop-block : goal.invariant-loop-block
invariant-loop-block l =
    (l.pages + sum_by block_pages (map vec_items (drop l.block-index l.block-items)) ≡ sum_by block_pages (map vec_items l.block-items))
    × (sum_by block_pages (map vec_items l.block-items) < 2 ^ 60) × AllByRecursion AreEntries (map vec_items (drop l.block-index l.block-items))
