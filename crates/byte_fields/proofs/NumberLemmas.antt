-- A number of any width in bytes, both ways.
use Rattle.std.proofs.Common.{◌≡◌, ◌<◌, ◌+◌, ◌*◌, ◌/◌, ◌%◌, ◌^◌, ℕ, zero, suc, List, [], ◌∷◌, ◌++◌, length, take, drop, refl, sym, ap, ◌∙◌, arith}
use Rattle.std.specs.Int.{byte_at, bytes_low_first}
use Rattle.std.proofs.lemmas.List.{get_or-drop}
use Rattle.std.proofs.Math.Nat.{div-div-eq-div-mul, pow-succ'}
use Rattle.byteorder.specs.Endian.{little_bytes, little_number}
use Rattle.byteorder.specs.Numbers.{little_from-cons}
use Rattle.byte_fields.specs.Spelling.{IsBytes, NumberFits, NumberIsReadAgain, NumberIsSpelledAgain}

pub IsBytes-drop : (n : ℕ) (bytes : List ℕ) → IsBytes bytes → IsBytes (drop n bytes)
IsBytes-drop n bytes h i = rw get_or-drop (h (n + i))

pub IsBytes-take : (n : ℕ) (bytes : List ℕ) → IsBytes bytes → IsBytes (take n bytes)
IsBytes-take zero bytes h i = omega arith
IsBytes-take (suc n) [] h i = omega arith
IsBytes-take (suc n) (b ∷ bytes) h zero = h zero
IsBytes-take (suc n) (b ∷ bytes) h (suc i) = IsBytes-take n bytes (λ k. h (suc k)) i

-- a byte further up is a byte of the number without its lowest byte
byte_at-suc : (i n : ℕ) → byte_at (suc i) n ≡ byte_at i (n / 256)
byte_at-suc zero n = refl
byte_at-suc (suc i) n =
    ap (λ (x : ℕ). x % 256) (ap (λ (x : ℕ). n / x) (pow-succ' 256 (suc i)) ∙ sym (div-div-eq-div-mul n 256 (256 ^ suc i)))

bytes_low_first-suc : (i k n : ℕ) → bytes_low_first (suc i) k n ≡ bytes_low_first i k (n / 256)
bytes_low_first-suc i zero n = refl
bytes_low_first-suc i (suc k) n = λ j. byte_at-suc i n j ∷ bytes_low_first-suc (suc i) k n j

-- the lowest byte stands first
pub little_bytes-suc : (w a m : ℕ) → a < 256 → little_bytes (suc w) (a + 256 * m) ≡ a ∷ little_bytes w m
little_bytes-suc w a m lt =
    let low : (a + 256 * m) % 256 ≡ a = omega arith in
    let high : (a + 256 * m) / 256 ≡ m = omega arith in
    let rest : bytes_low_first 1 w (a + 256 * m) ≡ little_bytes w m = bytes_low_first-suc 0 w (a + 256 * m) ∙ ap (little_bytes w) high in
    λ j. low j ∷ rest j

pub little_number-cons : (w a : ℕ) (xs : List ℕ) → little_number (suc w) (a ∷ xs) ≡ a + 256 * little_number w xs
little_number-cons w a xs = ap (λ (x : ℕ). a + 256 * x) (little_from-cons 0 w a xs)

pub length-little_bytes : (w n : ℕ) → length (little_bytes w n) ≡ w
length-little_bytes w n = from 0 w n
  where
    from : (i w n : ℕ) → length (bytes_low_first i w n) ≡ w
    from i zero n = refl
    from i (suc w) n = let rest = from (suc i) w n in omega (arith, rest)

pub number_back : NumberIsSpelledAgain
number_back zero bytes h long = refl
number_back (suc w) [] h long = absurd (omega arith)
number_back (suc w) (a ∷ bytes) h long =
    ap (little_bytes (suc w)) (little_number-cons w a bytes) ∙ little_bytes-suc w a (little_number w bytes) (h 0)
    ∙ ap (λ (l : List ℕ). a ∷ l) (number_back w bytes (λ i. h (suc i)) (omega arith))

pub number_below : NumberFits
number_below zero bytes h long = omega arith
number_below (suc w) [] h long = absurd (omega arith)
number_below (suc w) (a ∷ bytes) h long =
    omega (arith, little_number-cons w a bytes, h 0, number_below w bytes (λ i. h (suc i)) (omega arith), pow-succ' 256 w)

pub number_again : NumberIsReadAgain
number_again zero n rest lt = omega (arith, lt)
number_again (suc w) n rest lt =
    let parts : n ≡ n % 256 + 256 * (n / 256) = omega arith in
    let cells : little_bytes (suc w) n ≡ n % 256 ∷ little_bytes w (n / 256) =
    ap (little_bytes (suc w)) parts ∙ little_bytes-suc w (n % 256) (n / 256) (omega arith) in
    ap (λ (l : List ℕ). little_number (suc w) (l ++ rest)) cells ∙ little_number-cons w (n % 256) (little_bytes w (n / 256) ++ rest)
    ∙ ap (λ (x : ℕ). n % 256 + 256 * x) (number_again w (n / 256) rest (omega (arith, lt, pow-succ' 256 w))) ∙ sym parts
