-- The order of two byte strings, from numbers of some bytes at a time.
use Rattle.std.proofs.Common.{◌≡◌, ◌≢◌, ◌≤◌, ◌<◌, ◌+◌, ◌*◌, ◌^◌, ℕ, zero, suc, List, [], ◌∷◌, length, drop, refl, sym, ap, ap₂, ◌∙◌, arith, length-drop, inl, inr}
use Rattle.std.specs.Prelude.{nat_lt}
use Rattle.std.specs.Ordering.{is_lt, nat_cmp, ordering_then}
use Rattle.std.specs.declared.cmp.Ordering.{Ordering}
use Rattle.std.specs.declared.cmp.Ordering.TheVariants.{Less, Equal, Greater}
use Rattle.std.proofs.lemmas.Bool.{cases_order}
use Rattle.std.proofs.lemmas.Bool.Decides.{nat_tests}
use Rattle.std.proofs.lemmas.List.{drop-drop}
use Rattle.byte_fields.proofs.NumberLemmas.{IsBytes-drop}
use Rattle.std.proofs.Math.Nat.{add-mul, mul-le-mul_right, pow-succ'}
use Rattle.byteorder.specs.Endian.{big_number}
use Rattle.byteorder.specs.Numbers.{big_from-cons}
use Rattle.byte_fields.specs.Spelling.{IsBytes}
use Rattle.map_model.specs.SortedMap.{Bytes, byte_order}

less : (a b : ℕ) → a < b → nat_cmp a b ≡ Less
less a b h = grind (arith, nat_tests)

same : (a b : ℕ) → a ≡ b → nat_cmp a b ≡ Equal
same a b h = grind (arith, nat_tests)

more : (a b : ℕ) → b < a → nat_cmp a b ≡ Greater
more a b h = grind (arith, nat_tests)

big_number-cons : (w a : ℕ) (xs : List ℕ) → big_number (suc w) (a ∷ xs) ≡ a * 256 ^ w + big_number w xs
big_number-cons w a xs = ap (λ (r : ℕ). a * 256 ^ w + r) (big_from-cons 0 w a xs)

-- behind a digit, what is below the base adds less than one to the digit
room : (x y p r : ℕ) → x < y → r < p → x * p + r < y * p
room x y p r lower fits =
    let steps : (x + 1) * p ≤ y * p = mul-le-mul_right p (omega (arith, lower)) in
    let parted : (x + 1) * p ≡ x * p + 1 * p = add-mul x 1 p in
    omega (arith, steps, parted, fits)

number_fits : (w : ℕ) (xs : Bytes) → IsBytes xs → w ≤ length xs → big_number w xs < 256 ^ w
number_fits zero xs h long = omega arith
number_fits (suc w) [] h long = absurd (omega arith)
number_fits (suc w) (a ∷ xs) h long =
    let later = number_fits w xs (λ i. h (suc i)) (omega arith) in
    omega (arith, big_number-cons w a xs, room a 256 (256 ^ w) (big_number w xs) (h 0) later, pow-succ' 256 w)

-- the higher digits of two numbers decide, else the others
digits : (x y p r s : ℕ) → r < p → s < p → nat_cmp (x * p + r) (y * p + s) ≡ ordering_then (nat_cmp x y) (nat_cmp r s)
digits x y p r s r_fits s_fits = elim (cases_order x y) [
  | inl level ↦ elim (cases_order r s) [
    | inl e ↦ same (x * p + r) (y * p + s) (ap₂ (λ (m n : ℕ). m * p + n) level e) ∙ sym (ap₂ ordering_then (same x y level) (same r s e))
    | inr (inl e) ↦ let at = ap (λ (m : ℕ). m * p) level in
        less (x * p + r) (y * p + s) (omega (arith, at, e)) ∙ sym (ap₂ ordering_then (same x y level) (less r s e))
    | inr (inr e) ↦ let at = ap (λ (m : ℕ). m * p) level in
        more (x * p + r) (y * p + s) (omega (arith, at, e)) ∙ sym (ap₂ ordering_then (same x y level) (more r s e))
  ]
  | inr (inl lower) ↦ less (x * p + r) (y * p + s) (omega (arith, room x y p r lower r_fits)) ∙ sym (ap (λ (o : Ordering). ordering_then o (nat_cmp r s)) (less x y lower))
  | inr (inr higher) ↦ more (x * p + r) (y * p + s) (omega (arith, room y x p s higher s_fits)) ∙ sym (ap (λ (o : Ordering). ordering_then o (nat_cmp r s)) (more x y higher))
]

then_then : (a b c : Ordering) → ordering_then (ordering_then a b) c ≡ ordering_then a (ordering_then b c)
then_then Less b c = refl
then_then Equal b c = refl
then_then Greater b c = refl

-- the numbers of the first bytes decide, else what stands behind them
pub by_front : (w : ℕ) (a b : Bytes) → IsBytes a → IsBytes b → w ≤ length a → w ≤ length b
    → byte_order a b ≡ ordering_then (nat_cmp (big_number w a) (big_number w b)) (byte_order (drop w a) (drop w b))
by_front zero a b ha hb la lb = refl
by_front (suc w) [] b ha hb la lb = absurd (omega arith)
by_front (suc w) (x ∷ xs) [] ha hb la lb = absurd (omega arith)
by_front (suc w) (x ∷ xs) (y ∷ ys) ha hb la lb =
    let rest = byte_order (drop w xs) (drop w ys) in
    let later = by_front w xs ys (λ i. ha (suc i)) (λ i. hb (suc i)) (omega arith) (omega arith) in
    let fits_x = number_fits w xs (λ i. ha (suc i)) (omega arith) in
    let fits_y = number_fits w ys (λ i. hb (suc i)) (omega arith) in
    let both : nat_cmp (big_number (suc w) (x ∷ xs)) (big_number (suc w) (y ∷ ys)) ≡ ordering_then (nat_cmp x y) (nat_cmp (big_number w xs) (big_number w ys)) =
    ap₂ nat_cmp (big_number-cons w x xs) (big_number-cons w y ys) ∙ digits x y (256 ^ w) (big_number w xs) (big_number w ys) fits_x fits_y in
    ap (ordering_then (nat_cmp x y)) later
    ∙ sym (then_then (nat_cmp x y) (nat_cmp (big_number w xs) (big_number w ys)) rest)
    ∙ sym (ap (λ (o : Ordering). ordering_then o rest) both)

-- other numbers decide
pub decided : (m n : ℕ) (later : Ordering) → m ≢ n → nat_lt m n ≡ is_lt (ordering_then (nat_cmp m n) later)
decided m n later other = elim (cases_order m n) [
  | inl level ↦ absurd (other level)
  | inr (inl lower) ↦ lt_is m n lower ∙ sym (ap (λ (o : Ordering). is_lt (ordering_then o later)) (less m n lower))
  | inr (inr higher) ↦ lt_not m n higher ∙ sym (ap (λ (o : Ordering). is_lt (ordering_then o later)) (more m n higher))
]
  where
    lt_is : (a b : ℕ) → a < b → nat_lt a b ≡ is_lt Less
    lt_is a b h = grind (arith, nat_tests)

    lt_not : (a b : ℕ) → b < a → nat_lt a b ≡ is_lt Greater
    lt_not a b h = grind (arith, nat_tests)

-- the same numbers do not
pub passed : (m n : ℕ) (later : Ordering) → m ≡ n → ordering_then (nat_cmp m n) later ≡ later
passed m n later level = ap (λ (o : Ordering). ordering_then o later) (same m n level)

-- the next eight bytes of both
pub next : (at : ℕ) (a b : Bytes) (m n : ℕ) → IsBytes a → IsBytes b → at + 8 ≤ length a → at + 8 ≤ length b
    → m ≡ big_number 8 (drop at a) → n ≡ big_number 8 (drop at b)
    → byte_order (drop at a) (drop at b) ≡ ordering_then (nat_cmp m n) (byte_order (drop (at + 8) a) (drop (at + 8) b))
next at a b m n ha hb la lb m_is n_is =
    by_front 8 (drop at a) (drop at b) (IsBytes-drop at a ha) (IsBytes-drop at b hb) (omega (arith, length-drop at a)) (omega (arith, length-drop at b))
    ∙ ap₂ (λ (x y : ℕ). ordering_then (nat_cmp x y) (byte_order (drop 8 (drop at a)) (drop 8 (drop at b)))) (sym m_is) (sym n_is)
    ∙ ap₂ (λ (x y : Bytes). ordering_then (nat_cmp m n) (byte_order x y)) (drop-drop 8 at a) (drop-drop 8 at b)
