use Rattle.std.proofs.Common.{◌≡◌, ◌<◌, ◌+◌, ◌^◌, suc, List, length, ap, sym, subst, ◌∙◌, arith}
use Rattle.std.specs.Prelude.{map, sum_by, vec_items}
use Rattle.std.specs.List.{AllByRecursion}
use Rattle.std.proofs.lemmas.List.{at_drop_all}
use Rattle.entry_model.specs.Entries.{Entry}
use Rattle.block_model.specs.Block.{AreEntries}
use Rattle.block_model.specs.Pages.{block_length, block_pages, data_pages, pages_for}
use Rattle.block_model.proofs.Bounds.{data_bound, next_sound, next_sum}
use Rattle.block_model.proofs.LastBlocks.{cut_sound}
use Rattle.plain_blocks.proofs.counts.data_pages.Goals as goal

pub loop-block-init : goal.loop-block-init
loop-block-init c =
    let blocks = ap (map vec_items) c.as_slice-block-items.ensures.value ∙ c.in_ok-blocks.ensures in (
      omega arith,
      subst (λ (bs : List (List Entry)). sum_by block_pages bs < 2 ^ 60) (sym blocks) (data_bound c.args.entries.now c.requires),
      subst (AllByRecursion AreEntries) (sym blocks) (cut_sound c.args.entries.now c.requires.each),
    )

pub overflow_add-pages : goal.overflow_add-pages
unfolding block_pages
overflow_add-pages c =
    let items = c.as_slice-block-items.result.now in
    let i = c.loop-block.block-index in
    let added = c.pages_for-pages.ensures ∙ ap pages_for (c.block_length.ensures.length ∙ ap block_length (c.as_slice.ensures.value ∙ ap vec_items c.block-item.is)) in
    let next = next_sum vec_items block_pages items i c.block-item.result (omega (arith, c.loop-block-test.true)) in
    omega (arith, added, next, c.loop-block.invariant.0, c.loop-block.invariant.1)

pub loop-block-preserved : goal.loop-block-preserved
unfolding block_pages
loop-block-preserved c =
    let items = c.as_slice-block-items.result.now in
    let i = c.loop-block.block-index in
    let lt : i < length items = omega (arith, c.loop-block-test.true) in
    let added = c.pages_for-pages.ensures ∙ ap pages_for (c.block_length.ensures.length ∙ ap block_length (c.as_slice.ensures.value ∙ ap vec_items c.block-item.is)) in
    let next = next_sum vec_items block_pages items i c.block-item.result lt in
    let n : i + 1 ≡ suc i = omega arith in
    (rw n (omega (arith, added, next, c.loop-block.invariant.0)), c.loop-block.invariant.1, rw n (next_sound vec_items items i c.block-item.result lt c.loop-block.invariant.2).1)

pub returns-clause-pages : goal.returns-clause-pages
unfolding data_pages
returns-clause-pages c =
    let items = c.as_slice-block-items.result.now in
    let blocks = ap (map vec_items) c.as_slice-block-items.ensures.value ∙ c.in_ok-blocks.ensures in
    let none = at_drop_all (λ xs. sum_by block_pages (map vec_items xs)) items c.loop-block.block-index (omega (arith, c.loop-block-test.false)) in
    let all : c.loop-block.pages ≡ sum_by block_pages (map vec_items items) = omega (arith, none, c.loop-block.invariant.0) in
    all ∙ ap (sum_by block_pages) blocks
