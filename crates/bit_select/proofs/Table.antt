-- A table of the places of set bits in bytes, held against the definition at each of its entries, by computing.
use Rattle.std.proofs.Common.{◌≡◌, ℕ, zero, suc, ◌+◌, ◌*◌, ◌/◌, ◌%◌, ◌^◌, ◌<◌, Bool, true, false, ◌&&◌, ◌||◌, List, [], ◌∷◌, length, eqb, leb, ltb, get_or, refl, ap, ◌∙◌, arith}
use Rattle.std.specs.Int.{bit_at}
use Rattle.std.specs.Int.RustNames.{count_ones}
use Rattle.std.proofs.lemmas.Bool.{eqb-true, lt-leb, ltb-true}

-- where byte i / 8 has more than i % 8 set bits, p is the place of that one
unfoldable pub fits : ℕ → ℕ → Bool
fits i p = leb (count_ones (i / 8)) (i % 8) || (ltb p 8 && (eqb (bit_at (i / 8) p) 1 && eqb (count_ones (i / 8 % 2 ^ p)) (i % 8)))

unfoldable pub all_fit : ℕ → List ℕ → Bool
all_fit i [] = true
all_fit i (p ∷ ps) = fits i p && all_fit (suc i) ps

both : (x y : Bool) → (x && y) ≡ true → (x ≡ true) × (y ≡ true)
both true y is = (refl, is)
both false y is = absurd cc

pub fit_at : (i : ℕ) (ps : List ℕ) → all_fit i ps ≡ true → (k : ℕ) → k < length ps → fits (i + k) (get_or ps k 0) ≡ true
unfolding all_fit
fit_at i [] all k below = absurd (omega arith)
fit_at i (p ∷ ps) all zero below = let same : i + 0 ≡ i = omega arith in ap (λ (j : ℕ). fits j p) same ∙ (both (fits i p) (all_fit (suc i) ps) all).0
fit_at i (p ∷ ps) all (suc k) below =
    let same : i + suc k ≡ suc i + k = omega arith in
    ap (λ (j : ℕ). fits j (get_or ps k 0)) same ∙ fit_at (suc i) ps (both (fits i p) (all_fit (suc i) ps) all).1 k (omega arith)

-- what an entry that fits says
pub record IsPlace (byte n p : ℕ) : Type 0 where
  pub low : p < 8
  pub is_set : bit_at byte p ≡ 1
  pub before : count_ones (byte % 2 ^ p) ≡ n

other : (x y : Bool) → (x || y) ≡ true → x ≡ false → y ≡ true
other true y is not = absurd cc
other false y is not = is

pub place_of : (table : List ℕ) → all_fit 0 table ≡ true → (byte n : ℕ) → n < 8 → n < count_ones byte → 8 * byte + n < length table → IsPlace byte n (get_or table (8 * byte + n) 0)
unfolding fits
place_of table all byte n small there below =
    let p = get_or table (8 * byte + n) 0 in
    let number : (0 + (8 * byte + n)) / 8 ≡ byte = omega arith in
    let rest : (0 + (8 * byte + n)) % 8 ≡ n = omega arith in
    let here = rw (number, rest) at (fit_at 0 table all (8 * byte + n) below) in
    let more = other (leb (count_ones byte) n) _ here (lt-leb (count_ones byte) n there) in
    let two = both (ltb p 8) _ more in
    let three = both (eqb (bit_at byte p) 1) _ two.1 in
    record { low = ltb-true p 8 two.0; is_set = eqb-true _ 1 three.0; before = eqb-true _ n three.1 }
