use Rattle.std.proofs.Common.{◌≡◌, take}
use Rattle.std.specs.Prelude.{map, vec_items}
use Rattle.block_model.specs.Pages.{blocks_of}
use Rattle.plain_blocks.proofs.pages.cut.Given as goal

-- the blocks are those of the entries so far
abbrev pub invariant-loop-entry : goal.invariant-loop-entry
invariant-loop-entry l = map vec_items l.blocks.items ≡ blocks_of (take l.entry-index l.entries)
