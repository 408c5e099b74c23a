-- What two strings share, and their first bytes past it.
use Rattle.std.proofs.Common.{◌≡◌, ◌<◌, ◌≤◌, ◌+◌, ◌==◌, ℕ, zero, suc, List, [], ◌∷◌, true, length, take, drop, get_or, refl, sym, ap, ◌∙◌, arith, inl, inr}
use Rattle.std.proofs.Math.Numerals.{one-add}
use Rattle.std.proofs.lemmas.Bool.{cases_eq, eqb-true, eq-eqb, ne_eqb, and_parts, and_from, false≢true}
use Rattle.filter_model.specs.Strings.{is_prefix, extends, shared}
use Rattle.filter_model.proofs.Order.{Leq, Lt}

pub shared-same : (a b : ℕ) (x y : List ℕ) → a ≡ b → shared (a ∷ x) (b ∷ y) ≡ 1 + shared x y
shared-same a b x y e = rw (eq-eqb a b e) refl

pub shared-other : (a b : ℕ) (x y : List ℕ) → (a ≡ b → ⊥) → shared (a ∷ x) (b ∷ y) ≡ 0
shared-other a b x y e = rw (ne_eqb a b e) refl

pub shared-nil : (x : List ℕ) → shared x [] ≡ 0
shared-nil [] = refl
shared-nil (a ∷ x) = refl

pub shared_sym : (x y : List ℕ) → shared x y ≡ shared y x
shared_sym [] y = sym (shared-nil y)
shared_sym (a ∷ x) [] = refl
shared_sym (a ∷ x) (b ∷ y) = elim (cases_eq a b) [
  | inl e ↦ shared-same a b x y e ∙ ap (λ n. 1 + n) (shared_sym x y) ∙ sym (shared-same b a y x (sym e))
  | inr ne ↦ shared-other a b x y ne ∙ sym (shared-other b a y x (λ e. ne (sym e)))
]

pub shared-le : (x y : List ℕ) → shared x y ≤ length x
shared-le [] y = omega arith
shared-le (a ∷ x) [] = omega arith
shared-le (a ∷ x) (b ∷ y) = elim (cases_eq a b) [
  | inl e ↦ omega (arith, shared-same a b x y e, shared-le x y)
  | inr ne ↦ omega (arith, shared-other a b x y ne)
]

-- past what they share, the stubs of two strings are in the strings' order
pub stubs_Lt : (x y : List ℕ) (m n : ℕ) → Lt x y → shared x y ≤ m → shared x y ≤ n → Lt (take (suc m) x) (take (suc n) y)
stubs_Lt x [] m n h i j = absurd h
stubs_Lt [] (b ∷ y) m n h i j = tt
stubs_Lt (a ∷ x) (b ∷ y) m n (inl less) i j = inl less
stubs_Lt (a ∷ x) (b ∷ y) zero n (inr (e, h)) i j = absurd (omega (arith, shared-same a b x y e))
stubs_Lt (a ∷ x) (b ∷ y) (suc m) zero (inr (e, h)) i j = absurd (omega (arith, shared-same a b x y e))
stubs_Lt (a ∷ x) (b ∷ y) (suc m) (suc n) (inr (e, h)) i j =
    let one = shared-same a b x y e in inr (e, stubs_Lt x y m n h (omega arith) (omega arith))

pub extends-prefix : (p x : List ℕ) → extends p x ≡ true → is_prefix p x ≡ true
extends-prefix [] x e = refl
extends-prefix (a ∷ p) [] e = e
extends-prefix (a ∷ p) (b ∷ x) e =
    let parts = and_parts (a == b) (extends p x) e in and_from (a == b) (is_prefix p x) parts.0 (extends-prefix p x parts.1)

pub extends-itself : (p : List ℕ) → extends p p ≡ true → ⊥
extends-itself [] e = false≢true e
extends-itself (a ∷ p) e = extends-itself p (and_parts (a == a) (extends p p) e).1

pub extends_longer : (p x : List ℕ) → extends p x ≡ true → length p < length x
extends_longer [] [] e = absurd (false≢true e)
extends_longer [] (b ∷ x) e = omega arith
extends_longer (a ∷ p) [] e = absurd (false≢true e)
extends_longer (a ∷ p) (b ∷ x) e = let h = extends_longer p x (and_parts (a == b) (extends p x) e).1 in omega arith

pub prefix_of_take : (p x : List ℕ) (n : ℕ) → is_prefix p (take n x) ≡ true → is_prefix p x ≡ true
prefix_of_take [] x n e = refl
prefix_of_take (a ∷ p) x zero e = absurd (false≢true e)
prefix_of_take (a ∷ p) [] (suc n) e = e
prefix_of_take (a ∷ p) (b ∷ x) (suc n) e =
    let parts = and_parts (a == b) (is_prefix p (take n x)) e in and_from (a == b) (is_prefix p x) parts.0 (prefix_of_take p x n parts.1)

-- a stub past what x shares with y is a prefix of y only where it is all of x
pub stub_in_other : (x y : List ℕ) (m : ℕ) → (x ≡ y → ⊥) → shared x y ≤ m → is_prefix (take (suc m) x) y ≡ true → length x ≡ shared x y
stub_in_other [] y m ne h e = refl
stub_in_other (a ∷ x) [] m ne h e = absurd (false≢true e)
stub_in_other (a ∷ x) (b ∷ y) zero ne h e =
    let parts = and_parts (a == b) (is_prefix [] y) e in
    absurd (omega (arith, shared-same a b x y (eqb-true a b parts.0)))
stub_in_other (a ∷ x) (b ∷ y) (suc m) ne h e =
    let parts = and_parts (a == b) (is_prefix (take (suc m) x) y) e in
    let here = eqb-true a b parts.0 in
    let one = shared-same a b x y here in
    let rest = stub_in_other x y m (λ same. ne (λ i. here i ∷ same i)) (omega arith) parts.1 in
    omega arith

-- where x is all that it shares with y, y goes on from it, past any stub that long
pub goes_on : (x y : List ℕ) (n : ℕ) → (x ≡ y → ⊥) → length x ≡ shared x y → length x ≤ n → extends x (take (suc n) y) ≡ true
goes_on [] [] n ne e h = absurd (ne refl)
goes_on [] (b ∷ y) n ne e h = refl
goes_on (a ∷ x) [] n ne e h = absurd (omega arith)
goes_on (a ∷ x) (b ∷ y) zero ne e h = absurd (omega arith)
goes_on (a ∷ x) (b ∷ y) (suc n) ne e h = elim (cases_eq a b) [
  | inl here ↦
      let one = shared-same a b x y here in
      and_from (a == b) (extends x (take (suc n) y)) (eq-eqb a b here) (goes_on x y n (λ same. ne (λ i. here i ∷ same i)) (omega arith) (omega arith))
  | inr other ↦ absurd (omega (arith, shared-other a b x y other))
]

pub is_prefix-take : (n : ℕ) (x : List ℕ) → is_prefix (take n x) x ≡ true
is_prefix-take zero x = refl
is_prefix-take (suc n) [] = refl
is_prefix-take (suc n) (a ∷ x) = and_from (a == a) (is_prefix (take n x) x) (eq-eqb a a refl) (is_prefix-take n x)

pub drop-length-take : (n : ℕ) (x : List ℕ) → drop (length (take n x)) x ≡ drop n x
drop-length-take zero x = refl
drop-length-take (suc n) [] = refl
drop-length-take (suc n) (a ∷ x) = drop-length-take n x

pub is_prefix_Leq : (p x : List ℕ) → is_prefix p x ≡ true → Leq p x
is_prefix_Leq [] x e = tt
is_prefix_Leq (a ∷ p) [] e = absurd (false≢true e)
is_prefix_Leq (a ∷ p) (b ∷ x) e =
    let parts = and_parts (a == b) (is_prefix p x) e in inr (eqb-true a b parts.0, is_prefix_Leq p x parts.1)

-- of two prefixes of one string, the one that comes after goes on from the other
pub prefixes_of_one : (s t x : List ℕ) → is_prefix s x ≡ true → is_prefix t x ≡ true → Lt s t → extends s t ≡ true
prefixes_of_one s [] x p q h = absurd h
prefixes_of_one [] (b ∷ t) x p q h = refl
prefixes_of_one (a ∷ s) (b ∷ t) [] p q h = absurd (false≢true p)
prefixes_of_one (a ∷ s) (b ∷ t) (c ∷ x) p q h =
    let p' = and_parts (a == c) (is_prefix s x) p in
    let q' = and_parts (b == c) (is_prefix t x) q in
    let a_is = eqb-true a c p'.0 in
    let b_is = eqb-true b c q'.0 in
    elim h [
      | inl less ↦ absurd (omega arith)
      | inr (here, rest) ↦ and_from (a == b) (extends s t) (eq-eqb a b here) (prefixes_of_one s t x p'.1 q'.1 rest)
    ]

-- a string by what it shares with another: a letter at that place that the other has not
pub differ_after : (x y : List ℕ) (d : ℕ) → shared x y < length x → shared x y < length y → get_or x (shared x y) d ≡ get_or y (shared x y) d → ⊥
differ_after [] y d h k e = omega arith
differ_after (a ∷ x) [] d h k e = omega arith
differ_after (a ∷ x) (b ∷ y) d h k e = elim (cases_eq a b) [
  | inl here ↦
      let one = shared-same a b x y here in
      differ_after x y d (omega arith) (omega arith) (rw (one, one-add) at e)
  | inr other ↦ other (rw (shared-other a b x y other) at e)
]

pub take-shared : (x y : List ℕ) → take (shared x y) x ≡ take (shared x y) y
take-shared [] y = refl
take-shared (a ∷ x) [] = refl
take-shared (a ∷ x) (b ∷ y) = elim (cases_eq a b) [
  | inl here ↦ rw (shared-same a b x y here, one-add) (λ i. here i ∷ take-shared x y i)
  | inr other ↦ rw (shared-other a b x y other) refl
]

-- of three strings in order, the outer two share no more than either does with the middle one
pub shared_outer : (x y z : List ℕ) → Lt x y → Lt y z → (shared x z ≤ shared x y) × (shared x z ≤ shared y z)
shared_outer x y [] h k = absurd k
shared_outer x [] (c ∷ z) h k = absurd h
shared_outer [] (b ∷ y) (c ∷ z) h k = (omega arith, omega arith)
shared_outer (a ∷ x) (b ∷ y) (c ∷ z) (inl h) (inl k) =
    let none = shared-other a c x z (λ e. omega arith) in (omega (arith, none), omega (arith, none))
shared_outer (a ∷ x) (b ∷ y) (c ∷ z) (inl h) (inr (k, l)) =
    let none = shared-other a c x z (λ e. omega arith) in (omega (arith, none), omega (arith, none))
shared_outer (a ∷ x) (b ∷ y) (c ∷ z) (inr (h, i)) (inl k) =
    let none = shared-other a c x z (λ e. omega arith) in (omega (arith, none), omega (arith, none))
shared_outer (a ∷ x) (b ∷ y) (c ∷ z) (inr (h, i)) (inr (k, l)) =
    let rest = shared_outer x y z i l in
    let outer = shared-same a c x z (h ∙ k) in
    let left = shared-same a b x y h in
    let right = shared-same b c y z k in
    (omega (arith, rest.0), omega (arith, rest.1))
