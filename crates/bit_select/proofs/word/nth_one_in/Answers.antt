use Rattle.std.proofs.Common.{◌≡◌, ◌/◌, ◌%◌, ◌^◌, ℕ, refl, sym, ap, ◌∙◌, arith}
use Rattle.std.specs.Int.{bit_at}
use Rattle.std.specs.Int.RustNames.{count_ones}
use Rattle.std.proofs.lemmas.Nat.{and_mask}
use Rattle.bit_words.proofs.Bytes.{bit_at-shr, bit_at-low}
use Rattle.bit_select.proofs.Windows.{ones-split, ones-low}
use Rattle.bit_select.proofs.word.nth_one_in.Goals as goal

no_ones : count_ones 0 ≡ 0
unfolding count_ones
no_ones = refl

pub returns-clause-is_set : goal.returns-clause-is_set
returns-clause-is_set c =
    let word = c.args.word in
    let place = c.halved-byte.result.place in
    let more = c.nth_one_in_byte.result in
    sym (bit_at-shr word place more) ∙ sym (bit_at-low (word / 2 ^ place) 8 more c.nth_one_in_byte.ensures.place)
    ∙ ap (λ (x : ℕ). bit_at x more) (sym (and_mask (word / 2 ^ place) 8)) ∙ c.nth_one_in_byte.ensures.is_set

pub returns-clause-before : goal.returns-clause-before
returns-clause-before c =
    let word = c.args.word in
    let place = c.halved-byte.result.place in
    let more = c.nth_one_in_byte.result in
    let nothing : word % 2 ^ 0 ≡ 0 = omega arith in
    omega (
      arith,
      ap count_ones nothing ∙ no_ones,
      ones-split word place more,
      ones-low (word / 2 ^ place) more 8 (omega (arith, c.nth_one_in_byte.ensures.place)),
      ap (λ (x : ℕ). count_ones (x % 2 ^ more)) (and_mask (word / 2 ^ place) 8),
      c.nth_one_in_byte.ensures.before,
      c.halved-byte.ensures.before,
      c.halved-quarter.ensures.before,
      c.halved-half.ensures.before,
    )
