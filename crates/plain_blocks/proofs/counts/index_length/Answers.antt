use Rattle.std.proofs.Common.{List, ℕ, length, refl, ap, ◌∙◌, arith}
use Rattle.std.specs.Prelude.{map, sum_by, vec_items}
use Rattle.std.proofs.lemmas.List.{at_drop_all}
use Rattle.block_model.specs.Pages.{index_length}
use Rattle.block_model.proofs.Bounds.{index_bound, row_length}
use Rattle.plain_blocks.proofs.counts.index_length.Goals as goal

pub loop-block-init : goal.loop-block-init
loop-block-init c =
    let blocks = ap (map vec_items) c.as_slice-block-items.ensures.value ∙ c.in_ok-blocks.ensures in
    let sums = ap (sum_by row_length) blocks in
    let head = ap (λ (key : List ℕ). length key) c.first_key.ensures in
    (refl, omega (arith, sums, head, index_bound c.args.entries.now c.requires))

pub returns-clause-length : goal.returns-clause-length
unfolding index_length
returns-clause-length c =
    let items = c.as_slice-block-items.result.now in
    let blocks = ap (map vec_items) c.as_slice-block-items.ensures.value ∙ c.in_ok-blocks.ensures in
    let none = at_drop_all (λ xs. sum_by row_length (map vec_items xs)) items c.loop-block.block-index (omega (arith, c.loop-block-test.false)) in
    let sums = ap (sum_by row_length) blocks in
    let head = ap (λ (key : List ℕ). length key) c.first_key.ensures in
    omega (arith, none, sums, head, c.loop-block.invariant.0)
