use Rattle.std.proofs.Common.{rules, List, ap, sym, subst, ◌∙◌}
use Rattle.std.specs.Prelude.{map, vec_items}
use Rattle.std.specs.List.{AllByRecursion}
use Rattle.entry_model.specs.Entries.{Entry}
use Rattle.block_model.specs.Block.{AreEntries}
use Rattle.block_model.specs.Pages.{blocks_with}
use Rattle.block_model.proofs.LastBlocks.{no_blocks, so_far_more, so_far_sound}
use Rattle.plain_blocks.proofs.pages.cut.Goals as goal

pub loop-entry-init : goal.loop-entry-init
loop-entry-init c = ap (map vec_items) c.new-blocks.ensures.items ∙ no_blocks

pub add-requires-clause-blocks : goal.add-requires-clause-blocks
add-requires-clause-blocks c =
    subst (AllByRecursion AreEntries) (sym c.loop-entry.invariant) (so_far_sound c.args.entries.now c.loop-entry.entry-index c.requires)

pub loop-entry-preserved : goal.loop-entry-preserved
loop-entry-preserved c =
    c.in_ok-add.ensures ∙ ap (λ (bs : List (List Entry)). blocks_with bs c.entry-item.result) c.loop-entry.invariant
    ∙ so_far_more c.args.entries.now c.loop-entry.entry-index c.entry-item.result (search rules) c.entry-item.is
