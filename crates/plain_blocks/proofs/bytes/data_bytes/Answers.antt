use Rattle.std.proofs.Common.{◌++◌, ℕ, List, refl, ap, sym, subst, ◌∙◌, arith}
use Rattle.std.specs.Prelude.{flat_map, map, vec_items}
use Rattle.std.specs.List.{AllByRecursion}
use Rattle.block_model.specs.Block.{AreEntries, block_bytes, data_bytes}
use Rattle.block_model.proofs.LastBlocks.{all_done, cut_sound}
use Rattle.plain_blocks.proofs.bytes.data_bytes.Goals as goal

pub loop-block-init : goal.loop-block-init
loop-block-init c =
    let blocks = ap (map vec_items) c.as_slice-block-items.ensures.value ∙ c.in_ok-blocks.ensures in
    (refl, subst (AllByRecursion AreEntries) (sym blocks) (cut_sound c.args.entries.now c.requires.each))

pub returns : goal.returns
unfolding data_bytes
returns c =
    let blocks = ap (map vec_items) c.as_slice-block-items.ensures.value ∙ c.in_ok-blocks.ensures in
    let items = c.as_slice-block-items.result.now in
    all_done (λ xs. flat_map block_bytes (map vec_items xs)) refl items c.loop-block.block-index c.loop-block.out.items _ (omega (arith, c.loop-block-test.false)) c.loop-block.invariant.0
    ∙ ap (λ (l : List ℕ). l ++ flat_map block_bytes (map vec_items items)) c.new-out.ensures.items ∙ ap (flat_map block_bytes) blocks
