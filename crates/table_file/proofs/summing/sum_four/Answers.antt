use Rattle.std.proofs.Common.{◌≡◌, ◌+◌, ℕ, ap, ◌∙◌, arith}
use Rattle.table_file.specs.BlockRows.{summed_rows}
use Rattle.table_file.proofs.summing.sum_four.Goals as goal

pub returns-then-second-size-clause-sums : goal.returns-then-second-size-clause-sums
returns-then-second-size-clause-sums c first seen =
    let n = c.args.n in
    let bytes = c.args.blocks.now in
    let two : n + 1 + 1 ≡ n + 2 = omega arith in
    let three : n + 2 + 1 ≡ n + 3 = omega arith in
    let four : n + 3 + 1 ≡ n + 4 = omega arith in
    let one_more = c.sum_one.ensures.sums first seen in
    let two_more = c.sum_one-then-second-size.ensures.sums first one_more ∙ ap (λ (k : ℕ). summed_rows k first bytes) two in
    let three_more = c.sum_one-then-second-size-2.ensures.sums first two_more ∙ ap (λ (k : ℕ). summed_rows k first bytes) three in
    c.sum_one-then-second-size-3.ensures.sums first three_more ∙ ap (λ (k : ℕ). summed_rows k first bytes) four
