use Rattle.std.proofs.Common.{◌-◌, ◌++◌, [], ◌∷◌, ℕ, List, length, get_or, ap, sym, ◌∙◌}
use Rattle.std.specs.Prelude.{map, vec_items}
use Rattle.std.proofs.lemmas.Result.{on_ok_weaker}
use Rattle.entry_model.specs.Entries.{Entry}
use Rattle.block_model.specs.Pages.{last_has_room}
use Rattle.block_model.proofs.LastBlocks.{seen_added, seen_begun}
use Rattle.plain_blocks.proofs.pages.add.Goals as goal

pub returns-then-has_room : goal.returns-then-has_room
returns-then-has_room c =
    let blocks = c.args.blocks.now.items in
    let room = ap (λ bs. last_has_room (map vec_items bs) c.args.entry.now) (sym c.as_slice.ensures.value) ∙ sym c.in_ok-has_room.ensures ∙ c.if-has_room.true in
    let many = c.len-last.ensures ∙ sym c.as_slice.ensures.len ∙ ap length c.as_slice.ensures.value in
    let is = ap vec_items (c.index_mut.ensures.value ∙ ap (λ (n : ℕ). get_or blocks (n - 1) c.index_mut.result.now) many) in
    rw many (on_ok_weaker c.push_copy.result
    (λ pushed. seen_added vec_items blocks c.index_mut.result.now c.push_copy.new.list c.args.entry.now room
    (pushed ∙ ap (λ (b : List Entry). b ++ (c.args.entry.now ∷ [])) is))
    c.push_copy.ensures.added)

pub returns : goal.returns
returns c =
    let room = ap (λ bs. last_has_room (map vec_items bs) c.args.entry.now) (sym c.as_slice.ensures.value) ∙ sym c.in_ok-has_room.ensures ∙ c.if-has_room.false in
    ap (map vec_items) c.in_ok-push.ensures.items
    ∙ seen_begun vec_items c.args.blocks.now.items c.push_copy-2.new.list c.args.entry.now room
    (c.in_ok-push_copy.ensures.added ∙ ap (λ (b : List Entry). b ++ (c.args.entry.now ∷ [])) c.new-block.ensures.items)
