-- The numbers that the first bytes of a string make, against the order of strings.
use Rattle.std.proofs.Common.{◌≡◌, ◌<◌, ◌≤◌, ◌+◌, ◌*◌, ◌/◌, ◌%◌, ◌^◌, ◌==◌, ℕ, zero, suc, List, [], ◌∷◌, ◌++◌, true, length, drop, refl, sym, ap, ◌∙◌, arith, inl, inr}
use Rattle.std.proofs.lemmas.Bool.{cases_lt, cases_Bool, eqb-true, eqb-false, eq-eqb, and_parts, and_from, false≢true}
use Rattle.std.proofs.lemmas.Nat.{le-div}
use native.Mathlib.Nat.{div-mul-le_self, mul-le-mul_right, mod-lt, div-add-mod', pow-succ', one-le-pow, div-lt_iff_lt-mul}
use Rattle.byte_fields.specs.Spelling.{IsBytes}
use Rattle.filter_model.specs.Strings.{is_prefix, bytes_eq, prefix_number, shortest}
use Rattle.filter_model.proofs.Order.{Leq}

pub IsBytes-nil : IsBytes []
IsBytes-nil i = omega arith

pub IsBytes-cons : (a : ℕ) (x : List ℕ) → a < 256 → IsBytes x → IsBytes (a ∷ x)
IsBytes-cons a x h k zero = h
IsBytes-cons a x h k (suc i) = k i

pub IsBytes-tail : (a : ℕ) (x : List ℕ) → IsBytes (a ∷ x) → IsBytes x
IsBytes-tail a x h i = h (suc i)

pub IsBytes-drop : (n : ℕ) (x : List ℕ) → IsBytes x → IsBytes (drop n x)
IsBytes-drop zero x h = h
IsBytes-drop (suc n) [] h = h
IsBytes-drop (suc n) (a ∷ x) h = IsBytes-drop n x (IsBytes-tail a x h)

pub IsBytes-append : (x y : List ℕ) → IsBytes x → IsBytes y → IsBytes (x ++ y)
IsBytes-append [] y h k = k
IsBytes-append (a ∷ x) y h k = IsBytes-cons a (x ++ y) (h 0) (IsBytes-append x y (IsBytes-tail a x h) k)

pub div-mono : (x y w : ℕ) → 0 < w → x ≤ y → x / w ≤ y / w
div-mono x y w pos h = le-div (x / w) y w pos (omega (arith, div-mul-le_self x w))

pub pow_pos : (b n : ℕ) → 0 < b → 0 < b ^ n
pow_pos b n h = omega (arith, one-le-pow n b h)

-- a number by its highest byte and the rest is less than another where the byte is less
higher : (a b p f g : ℕ) → a < b → f < p → a * p + f < b * p + g
higher a b p f g h k =
    let step : (a + 1) * p ≤ b * p = mul-le-mul_right p (omega arith) in
    let out : (a + 1) * p ≡ a * p + p = omega arith in
    omega arith

pub prefix_number_below : (n : ℕ) (x : List ℕ) → IsBytes x → prefix_number n x < 256 ^ n
prefix_number_below zero x h = omega arith
prefix_number_below (suc n) [] h = pow_pos 256 (suc n) (omega arith)
prefix_number_below (suc n) (a ∷ x) h =
    let rest = prefix_number_below n x (IsBytes-tail a x h) in
    let top = higher a 256 (256 ^ n) (prefix_number n x) 0 (h 0) rest in
    omega (arith, pow-succ' 256 n, top)

pub prefix_number-mono : (n : ℕ) (x y : List ℕ) → IsBytes x → Leq x y → prefix_number n x ≤ prefix_number n y
prefix_number-mono zero x y h k = omega arith
prefix_number-mono (suc n) [] y h k = omega arith
prefix_number-mono (suc n) (a ∷ x) [] h k = absurd k
prefix_number-mono (suc n) (a ∷ x) (b ∷ y) h (inl less) =
    let lower = higher a b (256 ^ n) (prefix_number n x) (prefix_number n y) less (prefix_number_below n x (IsBytes-tail a x h)) in omega arith
prefix_number-mono (suc n) (a ∷ x) (b ∷ y) h (inr (e, k)) =
    let rest = prefix_number-mono n x y (IsBytes-tail a x h) k in rw e (omega arith)

-- equal numbers have equal highest bytes and equal rests
alike : (a b p f g : ℕ) → f < p → g < p → a * p + f ≡ b * p + g → (a ≡ b) × (f ≡ g)
alike a b p f g h k e = elim (cases_lt a b) [
  | inl less ↦ absurd (omega (arith, higher a b p f g less h))
  | inr not_less ↦ elim (cases_lt b a) [
    | inl more ↦ absurd (omega (arith, higher b a p g f more k))
    | inr not_more ↦
        let same : a ≡ b = omega arith in
        (same, let e' : a * p + f ≡ a * p + g = e ∙ ap (λ (z : ℕ). z * p + g) (sym same) in omega arith)
  ]
]

-- where the first n bytes make one number, the rests are in the order of the strings
pub rest-mono : (n : ℕ) (x y : List ℕ) → IsBytes x → IsBytes y → Leq x y → prefix_number n x ≡ prefix_number n y → Leq (drop n x) (drop n y)
rest-mono zero x y h i k e = k
rest-mono (suc n) [] y h i k e = tt
rest-mono (suc n) (a ∷ x) [] h i k e = absurd k
rest-mono (suc n) (a ∷ x) (b ∷ y) h i k e =
    let tail_x = IsBytes-tail a x h in
    let tail_y = IsBytes-tail b y i in
    let parts = alike a b (256 ^ n) (prefix_number n x) (prefix_number n y) (prefix_number_below n x tail_x) (prefix_number_below n y tail_y) e in
    elim k [
      | inl less ↦ absurd (omega (arith, parts.0))
      | inr (same, rest) ↦ rest-mono n x y tail_x tail_y rest parts.1
    ]

-- where the first bytes of x make the number of t, and x is not below t, x begins with t
pub prefix_from_number : (t x : List ℕ) → IsBytes t → IsBytes x → Leq t x → prefix_number (length t) t ≡ prefix_number (length t) x → is_prefix t x ≡ true
prefix_from_number [] x h i k e = refl
prefix_from_number (a ∷ t) [] h i k e = absurd k
prefix_from_number (a ∷ t) (b ∷ x) h i k e =
    let tail_t = IsBytes-tail a t h in
    let tail_x = IsBytes-tail b x i in
    let parts = alike a b (256 ^ length t) (prefix_number (length t) t) (prefix_number (length t) x) (prefix_number_below (length t) t tail_t) (prefix_number_below (length t) x tail_x) e in
    elim k [
      | inl less ↦ absurd (omega (arith, parts.0))
      | inr (here, rest) ↦ and_from (a == b) (is_prefix t x) (eq-eqb a b here) (prefix_from_number t x tail_t tail_x rest parts.1)
    ]

pub prefix_number-prefix : (t x : List ℕ) → is_prefix t x ≡ true → prefix_number (length t) x ≡ prefix_number (length t) t
prefix_number-prefix [] x e = refl
prefix_number-prefix (a ∷ t) [] e = absurd (false≢true e)
prefix_number-prefix (a ∷ t) (b ∷ x) e =
    let parts = and_parts (a == b) (is_prefix t x) e in
    let here = eqb-true a b parts.0 in
    let rest = prefix_number-prefix t x parts.1 in
    rw (here, rest) refl

pub prefix_parts : (t x : List ℕ) → is_prefix t x ≡ true → x ≡ t ++ drop (length t) x
prefix_parts [] x e = refl
prefix_parts (a ∷ t) [] e = absurd (false≢true e)
prefix_parts (a ∷ t) (b ∷ x) e =
    let parts = and_parts (a == b) (is_prefix t x) e in
    λ i. sym (eqb-true a b parts.0) i ∷ prefix_parts t x parts.1 i

pub is_prefix-append : (t u : List ℕ) → is_prefix t (t ++ u) ≡ true
is_prefix-append [] u = refl
is_prefix-append (a ∷ t) u = and_from (a == a) (is_prefix t (t ++ u)) (eq-eqb a a refl) (is_prefix-append t u)

pub same-true : (x y : List ℕ) → bytes_eq x y ≡ true → x ≡ y
same-true [] [] e = refl
same-true [] (b ∷ y) e = absurd (false≢true e)
same-true (a ∷ x) [] e = absurd (false≢true e)
same-true (a ∷ x) (b ∷ y) e =
    let parts = and_parts (a == b) (bytes_eq x y) e in λ i. eqb-true a b parts.0 i ∷ same-true x y parts.1 i

pub same-itself : (x : List ℕ) → bytes_eq x x ≡ true
same-itself [] = refl
same-itself (a ∷ x) = and_from (a == a) (bytes_eq x x) (eq-eqb a a refl) (same-itself x)

-- the shortest string of a number has its bytes
pub prefix_number-shortest : (n v : ℕ) → v < 256 ^ n → prefix_number n (shortest n v) ≡ v
prefix_number-shortest zero v h = omega arith
prefix_number-shortest (suc n) v h = elim (cases_Bool (v == 0)) [
  | inl none ↦ rw none (sym (eqb-true v 0 none))
  | inr some ↦
      let rest = prefix_number-shortest n (v % 256 ^ n) (mod-lt v (pow_pos 256 n (omega arith))) in
      rw (some, rest) (div-add-mod' v (256 ^ n))
]

pub shortest-bytes : (n v : ℕ) → v < 256 ^ n → IsBytes (shortest n v)
shortest-bytes zero v h = IsBytes-nil
shortest-bytes (suc n) v h = elim (cases_Bool (v == 0)) [
  | inl none ↦ rw none IsBytes-nil
  | inr some ↦
      let pos = pow_pos 256 n (omega arith) in
      let high : v / 256 ^ n < 256 = (div-lt_iff_lt-mul pos).1 (omega (arith, pow-succ' 256 n)) in
      rw some (IsBytes-cons (v / 256 ^ n) (shortest n (v % 256 ^ n)) high (shortest-bytes n (v % 256 ^ n) (mod-lt v pos)))
]

least_some : (n v : ℕ) (y : List ℕ) → ((z : List ℕ) → IsBytes z → v % 256 ^ n ≤ prefix_number n z → Leq (shortest n (v % 256 ^ n)) z)
    → (v ≡ 0 → ⊥) → IsBytes y → v ≤ prefix_number (suc n) y → Leq (v / 256 ^ n ∷ shortest n (v % 256 ^ n)) y
least_some n v [] least some h k = some (omega arith)
least_some n v (b ∷ y) least some h k =
    let tail = IsBytes-tail b y h in
    let whole = div-add-mod' v (256 ^ n) in
    let rest = prefix_number_below n y tail in
    elim (cases_lt (v / 256 ^ n) b) [
      | inl less ↦ inl less
      | inr not_less ↦ elim (cases_lt b (v / 256 ^ n)) [
        | inl more ↦ absurd (omega (arith, higher b (v / 256 ^ n) (256 ^ n) (prefix_number n y) (v % 256 ^ n) more rest))
        | inr not_more ↦
            let e : v / 256 ^ n ≡ b = omega arith in
            let e' : v / 256 ^ n * 256 ^ n ≡ b * 256 ^ n = ap (λ (z : ℕ). z * 256 ^ n) e in
            inr (e, least y tail (omega arith))
      ]
    ]

-- no string whose first bytes make the number or more comes before it
pub shortest_least : (n v : ℕ) (y : List ℕ) → IsBytes y → v ≤ prefix_number n y → Leq (shortest n v) y
shortest_least zero v y h k = tt
shortest_least (suc n) v y h k = elim (cases_Bool (v == 0)) [
  | inl none ↦ rw none tt
  | inr some ↦ rw some (least_some n v y (shortest_least n (v % 256 ^ n)) (eqb-false v 0 some) h k)
]
