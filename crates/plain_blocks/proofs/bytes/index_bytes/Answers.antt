use Rattle.std.proofs.Common.{[], ◌∷◌, ◌++◌, ℕ, List, length, refl, ap, ap₂, sym, subst, ◌∙◌, arith}
use Rattle.std.specs.Prelude.{flat_map, map, vec_items}
use Rattle.std.specs.List.{AllByRecursion}
use Rattle.std.proofs.lemmas.List.{length-map}
use Rattle.byte_fields.specs.Fields.{fields}
use Rattle.entry_model.specs.Entries.{Entry}
use Rattle.block_model.specs.Block.{AreEntries}
use Rattle.block_model.specs.Index.{index_head_widths, index_magic, index_row_bytes, index_row_of}
use Rattle.block_model.proofs.LastBlocks.{all_done, cut_sound, index_head_is, index_is}
use Rattle.plain_blocks.proofs.bytes.index_bytes.Goals as goal

pub loop-block-init : goal.loop-block-init
loop-block-init c =
    let blocks = ap (map vec_items) c.as_slice-block-items.ensures.value ∙ c.in_ok-blocks.ensures in
    (refl, subst (AllByRecursion AreEntries) (sym blocks) (cut_sound c.args.entries.now c.requires.each))

pub returns : goal.returns
returns c =
    let entries = c.args.entries.now in
    let items = c.as_slice-block-items.result.now in
    let blocks = ap (map vec_items) c.as_slice-block-items.ensures.value ∙ c.in_ok-blocks.ensures in
    let many = c.len.ensures ∙ sym c.as_slice-block-items.ensures.len ∙ sym (length-map items vec_items) ∙ ap length blocks in
    let head = c.in_ok-extend_from_slice.ensures.items ∙ ap (λ (l : List ℕ). l ++ c.first_key-least.result.now) (c.in_ok-push_fields.ensures.added ∙ ap (λ (l : List ℕ). l ++ fields index_head_widths (index_magic ∷ c.len.result ∷ length c.first_key-least.result.now ∷ [])) c.new-out.ensures.items)
    ∙ index_head_is entries c.len.result c.first_key-least.result.now many c.first_key-least.ensures in
    all_done (λ xs. flat_map (λ (b : List Entry). index_row_bytes (index_row_of b)) (map vec_items xs)) refl items c.loop-block.block-index c.loop-block.out.items _ (omega (arith, c.loop-block-test.false)) c.loop-block.invariant.0
    ∙ ap₂ (λ (l : List ℕ) (bs : List (List Entry)). l ++ flat_map (λ (b : List Entry). index_row_bytes (index_row_of b)) bs) head blocks
    ∙ index_is entries
