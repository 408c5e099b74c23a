use Rattle.std.proofs.Common.{List, length, ap, subst, sym, ◌∙◌}
use Rattle.std.specs.Prelude.{vec_items}
use Rattle.std.proofs.lemmas.Result.{IfOk-weaker}
use Rattle.entry_model.specs.Entries.{Entry}
use Rattle.block_model.specs.Block.{AreEntries}
use Rattle.block_model.specs.Pages.{has_room}
use Rattle.block_model.proofs.LastBlocks.{positive, seen_last, seen_sound}
use Rattle.plain_blocks.proofs.pages.last_has_room.Goals as goal

pub has_room-requires-clause-block : goal.has_room-requires-clause-block
has_room-requires-clause-block c =
    let some = positive (length c.args.blocks.now) c.if-is_empty.ensures in
    let block = c.index-blocks-blocks.result in
    subst AreEntries (sym (c.as_slice.ensures.value ∙ ap vec_items c.index-blocks-blocks.is)) (seen_sound vec_items c.args.blocks.now block c.requires.blocks some)

pub returns : goal.returns
returns c =
    let some = positive (length c.args.blocks.now) c.if-is_empty.ensures in
    let block = c.index-blocks-blocks.result in
    IfOk-weaker c.has_room.result _ _ (λ room is. is ∙ ap (λ (b : List Entry). has_room b c.args.entry.now) (c.as_slice.ensures.value ∙ ap vec_items c.index-blocks-blocks.is)
    ∙ seen_last vec_items c.args.blocks.now block c.args.entry.now some)
    c.has_room.ensures
