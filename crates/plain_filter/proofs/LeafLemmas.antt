-- What one leaf answers: the tests of the code against the definitions.
use Rattle.std.proofs.Common.{Fits, w8, ◌≡◌, ◌<◌, ◌≤◌, ◌+◌, ◌-◌, ◌*◌, ◌^◌, ◌==◌, nat_lt, ℕ, zero, suc, List, [], ◌∷◌, ◌++◌, Bool, true, false, ◌&&◌, ◌||◌, length, take, drop, get_or, slice_index, Ordering, refl, sym, ap, subst, ◌∙◌, arith, inl, inr, add-one}
use Rattle.std.specs.declared.cmp.Ordering.TheVariants.{Less, Equal, Greater}
use Rattle.std.specs.Ordering.{nat_cmp, is_lt, ordering_then}
use Rattle.std.specs.Cmp.Lexicographic.{pointwise, slice_cmp}
use Rattle.std.proofs.lemmas.Bool.{cases_Bool, eqb-true, eq-eqb, ne_eqb, lt-ltb, le-ltb, and_parts, false≢true, cond-true, cond-false}
use Rattle.std.proofs.lemmas.List.{append-nil, get_or-drop}
use native.Mathlib.Nat.{mul-le-mul_right}
use Rattle.byte_fields.specs.Spelling.{IsBytes}
use Rattle.filter_model.specs.Answers.{begins, is_past}
use Rattle.filter_model.specs.Leaves.{Leaf}
use Rattle.filter_model.specs.Strings.{bits, extends, prefix_number, is_before, is_prefix, shortest}
use Rattle.filter_model.proofs.Order.{nat_cmp-less, nat_cmp-same, nat_cmp-more, thirds}
use Rattle.filter_model.proofs.Fronts.{IsBytes-drop, prefix_number_below}

-- what a slice says of its numbers
pub bytes_of : (x : List ℕ) → ((i : ℕ) → Fits w8 (get_or x i 0)) → IsBytes x
bytes_of x h i = let fits = h i in omega arith

pub prefix_from_pointwise : (p x : List ℕ) → pointwise (λ (a b : ℕ). a == b) p (take (length p) x) ≡ is_prefix p x
prefix_from_pointwise [] x = refl
prefix_from_pointwise (a ∷ p) [] = refl
prefix_from_pointwise (a ∷ p) (b ∷ x) = ap (λ t. (a == b) && t) (prefix_from_pointwise p x)

prefix_number-nil : (n : ℕ) → prefix_number n [] ≡ 0
prefix_number-nil zero = refl
prefix_number-nil (suc n) = refl

prefix_number-suc : (n : ℕ) (x : List ℕ) → prefix_number (suc n) x ≡ slice_index x 0 * 256 ^ n + prefix_number n (drop 1 x)
prefix_number-suc n [] = omega (arith, prefix_number-nil n)
prefix_number-suc n (a ∷ x) = refl

drop-suc : (i : ℕ) (x : List ℕ) → drop 1 (drop i x) ≡ drop (i + 1) x
drop-suc i x = go i x ∙ ap (λ k. drop k x) (sym (add-one i))
  where
    go : (i : ℕ) (x : List ℕ) → drop 1 (drop i x) ≡ drop (suc i) x
    go zero x = refl
    go (suc i) [] = refl
    go (suc i) (a ∷ x) = go i x

nat_cmp-shift : (k f g : ℕ) → nat_cmp (k + f) (k + g) ≡ nat_cmp f g
nat_cmp-shift k f g = elim (thirds f g) [
  | inl less ↦ nat_cmp-less (k + f) (k + g) (omega arith) ∙ sym (nat_cmp-less f g less)
  | inr (inl one) ↦ nat_cmp-same (k + f) (k + g) (omega arith) ∙ sym (nat_cmp-same f g one)
  | inr (inr more) ↦ nat_cmp-more (k + f) (k + g) (omega arith) ∙ sym (nat_cmp-more f g more)
]

higher : (a b p f g : ℕ) → a < b → f < p → a * p + f < b * p + g
higher a b p f g h k =
    let step : (a + 1) * p ≤ b * p = mul-le-mul_right p (omega arith) in
    let out : (a + 1) * p ≡ a * p + p = omega arith in
    omega arith

-- the comparison of two padded prefixes, from place i on
abbrev pub padded_cmp : List ℕ → List ℕ → ℕ → Ordering
padded_cmp t lo i = nat_cmp (prefix_number (length t - i) (drop i t)) (prefix_number (length t - i) (drop i lo))

prefix_number_from : (t x : List ℕ) (i : ℕ) → i < length t → prefix_number (length t - i) (drop i x) ≡ slice_index x i * 256 ^ (length t - (i + 1)) + prefix_number (length t - (i + 1)) (drop (i + 1) x)
prefix_number_from t x i h =
    let n : length t - i ≡ suc (length t - (i + 1)) = omega arith in
    ap (λ k. prefix_number k (drop i x)) n ∙ prefix_number-suc (length t - (i + 1)) (drop i x)
    ∙ (λ j. at i x j * 256 ^ (length t - (i + 1)) + prefix_number (length t - (i + 1)) (drop-suc i x j))
  where
    at : (i : ℕ) (x : List ℕ) → slice_index (drop i x) 0 ≡ slice_index x i
    at i x = let plain : i + 0 ≡ i = omega arith in get_or-drop i x 0 0 ∙ ap (slice_index x) plain

pub padded_more : (t lo : List ℕ) (i : ℕ) → i < length t → slice_index t i ≡ slice_index lo i → padded_cmp t lo i ≡ padded_cmp t lo (i + 1)
padded_more t lo i h e =
    let n = length t - (i + 1) in
    (λ j. nat_cmp (prefix_number_from t t i h j) (prefix_number_from t lo i h j))
    ∙ ap (λ a. nat_cmp (a * 256 ^ n + prefix_number n (drop (i + 1) t)) (slice_index lo i * 256 ^ n + prefix_number n (drop (i + 1) lo))) e
    ∙ nat_cmp-shift (slice_index lo i * 256 ^ n) (prefix_number n (drop (i + 1) t)) (prefix_number n (drop (i + 1) lo))

pub padded_differs : (t lo : List ℕ) (i : ℕ) → IsBytes t → IsBytes lo → i < length t → (slice_index t i ≡ slice_index lo i → ⊥) → padded_cmp t lo i ≡ nat_cmp (slice_index t i) (slice_index lo i)
padded_differs t lo i ht hlo h ne =
    let n = length t - (i + 1) in
    let a = slice_index t i in
    let b = slice_index lo i in
    let f = prefix_number n (drop (i + 1) t) in
    let g = prefix_number n (drop (i + 1) lo) in
    let f_in = prefix_number_below n (drop (i + 1) t) (IsBytes-drop (i + 1) t ht) in
    let g_in = prefix_number_below n (drop (i + 1) lo) (IsBytes-drop (i + 1) lo hlo) in
    (λ j. nat_cmp (prefix_number_from t t i h j) (prefix_number_from t lo i h j))
    ∙ elim (thirds a b) [
      | inl less ↦ nat_cmp-less (a * 256 ^ n + f) (b * 256 ^ n + g) (higher a b (256 ^ n) f g less f_in) ∙ sym (nat_cmp-less a b less)
      | inr (inl one) ↦ absurd (ne one)
      | inr (inr more) ↦ nat_cmp-more (a * 256 ^ n + f) (b * 256 ^ n + g) (higher b a (256 ^ n) g f more g_in) ∙ sym (nat_cmp-more a b more)
    ]

pub padded_none : (t lo : List ℕ) → nat_cmp (prefix_number (length t) t) (prefix_number (length t) lo) ≡ padded_cmp t lo 0
padded_none t lo = let all : length t ≡ length t - 0 = omega arith in (λ j. nat_cmp (prefix_number (all j) t) (prefix_number (all j) lo))

pub padded_all : (t lo : List ℕ) → padded_cmp t lo (length t) ≡ Equal
padded_all t lo =
    let none : length t - length t ≡ 0 = omega arith in
    (λ j. nat_cmp (prefix_number (none j) (drop (length t) t)) (prefix_number (none j) (drop (length t) lo)))

-- yes at Less, no at Greater, and the answer given at Equal
abbrev pub by_order : Ordering → Bool → Bool
by_order Less b = true
by_order Equal b = b
by_order Greater b = false

-- a leaf that does not end is past lo by the padded comparison
pub past_by_cmp : (n : ℕ) (lo : List ℕ) (l : Leaf) (o : Ordering) → l.ends ≡ false → o ≡ nat_cmp (prefix_number (length l.stub) l.stub) (prefix_number (length l.stub) lo)
    → is_past n lo l ≡ by_order o (nat_lt l.real (bits n (drop (length l.stub) lo)))
past_by_cmp n lo l o none e =
    let f = prefix_number (length l.stub) l.stub in
    let g = prefix_number (length l.stub) lo in
    let below = nat_lt l.real (bits n (drop (length l.stub) lo)) in
    cond-false l.ends (is_before l.stub lo) _ none
    ∙ elim (thirds f g) [
      | inl less ↦ (λ j. lt-ltb f g less j || ((f == g) && below)) ∙ sym (ap (λ c. by_order c below) (e ∙ nat_cmp-less f g less))
      | inr (inl one) ↦ (λ j. le-ltb f g (omega arith) j || (eq-eqb f g one j && below)) ∙ sym (ap (λ c. by_order c below) (e ∙ nat_cmp-same f g one))
      | inr (inr more) ↦
          (λ j. le-ltb f g (omega arith) j || (ne_eqb f g (λ s. omega arith) j && below)) ∙ sym (ap (λ c. by_order c below) (e ∙ nat_cmp-more f g more))
    ]

-- where hi does not begin with t, what follows t changes nothing
pub below_stub : (hi t u : List ℕ) → is_prefix t hi ≡ false → is_before hi (t ++ u) ≡ is_before hi t
below_stub hi [] u e = absurd (false≢true (sym e))
below_stub [] (a ∷ t) u e = refl
below_stub (b ∷ hi) (a ∷ t) u e = elim (thirds b a) [
  | inl less ↦ ap (λ o. is_lt (ordering_then o (slice_cmp nat_cmp hi (t ++ u)))) (nat_cmp-less b a less) ∙ sym (ap (λ o. is_lt (ordering_then o (slice_cmp nat_cmp hi t))) (nat_cmp-less b a less))
  | inr (inl one) ↦
      let rest : is_prefix t hi ≡ false = subst (λ c. (c && is_prefix t hi) ≡ false) (eq-eqb a b (sym one)) e in
      ap (λ o. is_lt (ordering_then o (slice_cmp nat_cmp hi (t ++ u)))) (nat_cmp-same b a one)
      ∙ below_stub hi t u rest
      ∙ sym (ap (λ o. is_lt (ordering_then o (slice_cmp nat_cmp hi t))) (nat_cmp-same b a one))
  | inr (inr more) ↦ ap (λ o. is_lt (ordering_then o (slice_cmp nat_cmp hi (t ++ u)))) (nat_cmp-more b a more) ∙ sym (ap (λ o. is_lt (ordering_then o (slice_cmp nat_cmp hi t))) (nat_cmp-more b a more))
]

-- where it does, what follows t in both decides
pub below_after : (hi t u : List ℕ) → is_prefix t hi ≡ true → is_before hi (t ++ u) ≡ is_before (drop (length t) hi) u
below_after hi [] u e = refl
below_after [] (a ∷ t) u e = absurd (false≢true e)
below_after (b ∷ hi) (a ∷ t) u e =
    let parts = and_parts (a == b) (is_prefix t hi) e in
    let one = sym (eqb-true a b parts.0) in
    ap (λ o. is_lt (ordering_then o (slice_cmp nat_cmp hi (t ++ u)))) (nat_cmp-same b a one) ∙ below_after hi t u parts.1

pub least_end : (n : ℕ) (l : Leaf) → l.ends ≡ true → begins n l ≡ l.stub
least_end n l e = ap (λ (u : List ℕ). l.stub ++ u) (cond-true l.ends [] (shortest 4 (l.real * 2 ^ (32 - n))) e) ∙ append-nil l.stub

pub least_open : (n : ℕ) (l : Leaf) → l.ends ≡ false → begins n l ≡ l.stub ++ shortest 4 (l.real * 2 ^ (32 - n))
least_open n l e = ap (λ (u : List ℕ). l.stub ++ u) (cond-false l.ends [] (shortest 4 (l.real * 2 ^ (32 - n))) e)

-- what goes on from p is longer, and begins with it
pub extends-shorter : (p x : List ℕ) → length x ≤ length p → extends p x ≡ false
extends-shorter [] [] h = refl
extends-shorter [] (b ∷ x) h = absurd (omega arith)
extends-shorter (a ∷ p) [] h = refl
extends-shorter (a ∷ p) (b ∷ x) h = elim (cases_Bool (a == b)) [
  | inl here ↦ ap (λ t. t && extends p x) here ∙ extends-shorter p x (omega arith)
  | inr other ↦ ap (λ t. t && extends p x) other
]

pub extends-longer : (p x : List ℕ) → length p < length x → extends p x ≡ is_prefix p x
extends-longer [] [] h = absurd (omega arith)
extends-longer [] (b ∷ x) h = refl
extends-longer (a ∷ p) [] h = refl
extends-longer (a ∷ p) (b ∷ x) h = ap (λ t. (a == b) && t) (extends-longer p x (omega arith))
