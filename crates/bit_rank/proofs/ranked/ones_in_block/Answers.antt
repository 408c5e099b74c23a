use Rattle.std.proofs.Common.{◌≡◌, ◌≤◌, ◌+◌, ◌*◌, ℕ, min, length, take, ap, ◌∙◌, arith}
use Rattle.std.specs.List.{sum_by}
use Rattle.std.specs.Int.RustNames.{count_ones}
use Rattle.std.proofs.lemmas.List.{take_min}
use Rattle.bit_words.proofs.Counting.{ones_range}
use Rattle.bit_rank.proofs.ranked.ones_in_block.Goals as goal

pub returns : goal.returns
returns c =
    let words = c.args.words.now in
    let start = 2 * c.args.k in
    let ordered : 2 * c.args.k ≤ c.min-end.result = omega (arith, c.min-end.ensures) in
    let end : c.min-end.result ≡ min (2 * c.args.k + 2) (length c.args.words.now) = omega (arith, c.min-end.ensures) in
    ap (λ (n : ℕ). sum_by count_ones (take start words) + n) c.ones.ensures ∙ ones_range words start c.min-end.result ordered
    ∙ ap (λ (n : ℕ). sum_by count_ones (take n words)) end ∙ ap (sum_by count_ones) (take_min (start + 2) words)
