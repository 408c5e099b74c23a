-- Numbers that are too great before their word ends.
use Rattle.std.proofs.Common.{◌≡◌, ◌<◌, ◌≤◌, ◌+◌, ◌*◌, ◌-◌, ◌∙◌, ℕ, suc, List, [], ◌∷◌, length, take, drop, get_or, sym, ap, arith, Bool, true, false, cond, refl}
use Rattle.std.proofs.lemmas.Bool.{lt-leb}
use Rattle.std.specs.Prelude.{fold, Some, None, ◌&&◌, decimal, bytes_eq}
use Rattle.std.proofs.Math.Seq.{take-suc}
use Rattle.std.proofs.lemmas.List.Sums.{fold-append}
use Rattle.std.proofs.lemmas.List.{take-append-drop}
use Rattle.key_base.specs.Limits.{max_range_pairs}
use Rattle.line_model.specs.Requests.{decimal_number, number_in}

grows : (n : ℕ) (rest : List ℕ) → n ≤ fold (λ n digit. 10 * n + (digit - 48)) n rest
grows n [] = omega arith
grows n (digit ∷ rest) = omega (arith, grows (10 * n + (digit - 48)) rest)

-- the digits up to a place spell no more than all of them
pub front_below : (word : List ℕ) (i : ℕ) → decimal_number (take i word) ≤ decimal_number word
front_below word i =
    let all : decimal_number word ≡ fold (λ n digit. 10 * n + (digit - 48)) (decimal_number (take i word)) (drop i word) =
    ap decimal_number (sym (take-append-drop i word)) ∙ fold-append (λ n digit. 10 * n + (digit - 48)) 0 (take i word) (drop i word) in
    omega (arith, grows (decimal_number (take i word)) (drop i word), all)

pub next_digit : (word : List ℕ) (i : ℕ) → i < length word → decimal_number (take (i + 1) word) ≡ 10 * decimal_number (take i word) + (get_or word i 0 - 48)
next_digit word i lt =
    let step : i + 1 ≡ suc i = omega arith in
    ap (λ k. decimal_number (take k word)) step ∙ ap decimal_number (take-suc word i 0 lt) ∙ fold-append (λ n digit. 10 * n + (digit - 48)) 0 (take i word) (get_or word i 0 ∷ [])

no_number : (same within : Bool) (n : ℕ) → within ≡ false → None ≡ cond (same && within) (Some n) None
no_number true false n is = refl
no_number true true n is = absurd cc
no_number false within n is = refl

pub too_great : (word : List ℕ) → max_range_pairs < decimal_number word → None ≡ number_in word
too_great word great = no_number (bytes_eq word (decimal (decimal_number word))) _ (decimal_number word) (lt-leb (decimal_number word) max_range_pairs great)
