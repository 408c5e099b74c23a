-- How many elements of a list pass a test.
use Rattle.std.proofs.Common.{◌≡◌, ◌<◌, ◌≤◌, ◌+◌, ℕ, zero, suc, List, [], ◌∷◌, ◌⊎◌, Bool, true, false, cond, length, get_or, map, refl, sym, ap, subst, ◌∙◌, arith, inl, inr}
use Rattle.std.specs.Prelude.{filter, count_by}
use Rattle.std.specs.List.{AllPairs, Contains}
use Rattle.std.proofs.lemmas.Bool.{cases_Bool, cond-true, cond-false}
use Rattle.std.proofs.lemmas.List.Sums.{sum_by-cons}
use Rattle.filter_model.proofs.Stubs.{Contains-more}

pub count_by-cons : {X : Type 0} (p : X → Bool) (x : X) (xs : List X) → count_by p (x ∷ xs) ≡ cond (p x) 1 0 + count_by p xs
count_by-cons p x xs = sum_by-cons (λ y. cond (p y) 1 0) x xs

pub count_by-map : {X Y : Type 0} (p : Y → Bool) (f : X → Y) (xs : List X) → count_by p (map f xs) ≡ count_by (λ x. p (f x)) xs
count_by-map p f [] = refl
count_by-map p f (x ∷ xs) =
    count_by-cons p (f x) (map f xs) ∙ ap (λ n. cond (p (f x)) 1 0 + n) (count_by-map p f xs) ∙ sym (count_by-cons (λ x. p (f x)) x xs)

pub one_if : (b : Bool) → b ≡ true → cond {A = ℕ} b 1 0 ≡ 1
one_if b e = cond-true b 1 0 e

none_if : (b : Bool) → b ≡ false → cond {A = ℕ} b 1 0 ≡ 0
none_if b e = cond-false b 1 0 e

pub one_at_most : (b : Bool) → cond {A = ℕ} b 1 0 ≤ 1
one_at_most true = omega arith
one_at_most false = omega arith

-- a test that asks more counts no more
pub count_le : {X : Type 0} (p q : X → Bool) (xs : List X) → ((x : X) → Contains xs x → p x ≡ true → q x ≡ true) → count_by p xs ≤ count_by q xs
count_le p q [] h = omega arith
count_le p q (x ∷ xs) h =
    let rest = count_le p q xs (λ y c. h y (Contains-more x xs y c)) in
    let p_is = count_by-cons p x xs in
    let q_is = count_by-cons q x xs in
    elim (cases_Bool (p x)) [
      | inl passes ↦ omega (arith, p_is, q_is, rest, one_if (p x) passes, one_if (q x) (h x (0, omega arith, refl) passes))
      | inr fails ↦ omega (arith, p_is, q_is, rest, none_if (p x) fails)
    ]

-- what one of three tests passes each time is at most what they pass
pub count_three : {X : Type 0} (p a b c : X → Bool) (xs : List X) → ((x : X) → Contains xs x → p x ≡ true → (a x ≡ true) ⊎ ((b x ≡ true) ⊎ (c x ≡ true)))
    → count_by p xs ≤ count_by a xs + count_by b xs + count_by c xs
count_three p a b c [] h = omega arith
count_three p a b c (x ∷ xs) h =
    let rest = count_three p a b c xs (λ y k. h y (Contains-more x xs y k)) in
    let p_is = count_by-cons p x xs in
    let a_is = count_by-cons a x xs in
    let b_is = count_by-cons b x xs in
    let c_is = count_by-cons c x xs in
    elim (cases_Bool (p x)) [
      | inl passes ↦ elim (h x (0, omega arith, refl) passes) [
        | inl first ↦ omega (arith, p_is, a_is, b_is, c_is, rest, one_at_most (p x), one_if (a x) first)
        | inr (inl second) ↦ omega (arith, p_is, a_is, b_is, c_is, rest, one_at_most (p x), one_if (b x) second)
        | inr (inr third) ↦ omega (arith, p_is, a_is, b_is, c_is, rest, one_at_most (p x), one_if (c x) third)
      ]
      | inr fails ↦ omega (arith, p_is, a_is, b_is, c_is, rest, none_if (p x) fails)
    ]

pub AllPairs-tail : {X : Type 0} (R : X → X → Type 0) (x : X) (xs : List X) → AllPairs R (x ∷ xs) → AllPairs R xs
AllPairs-tail R x xs h i j d l k = h (suc i) (suc j) d (omega arith) (omega arith)

pub AllPairs-head : {X : Type 0} (R : X → X → Type 0) (x : X) (xs : List X) → AllPairs R (x ∷ xs) → (y : X) → Contains xs y → R x y
AllPairs-head R x xs h y c = subst (R x) c.2 (h 0 (suc c.0) y (omega arith) (omega (arith, c.1)))

pub count_none : {X : Type 0} (p : X → Bool) (xs : List X) → ((x : X) → Contains xs x → p x ≡ false) → count_by p xs ≡ 0
count_none p [] h = refl
count_none p (x ∷ xs) h =
    let rest = count_none p xs (λ y c. h y (Contains-more x xs y c)) in
    omega (arith, count_by-cons p x xs, none_if (p x) (h x (0, omega arith, refl)))

-- where no two pass, one passes at most
pub count_one : {X : Type 0} (p : X → Bool) (xs : List X) → AllPairs (λ a b. p a ≡ true → p b ≡ true → ⊥) xs → count_by p xs ≤ 1
count_one {X} p [] h = omega arith
count_one {X} p (x ∷ xs) h =
    let R : X → X → Type 0 = λ a b. p a ≡ true → p b ≡ true → ⊥ in
    let whole = count_by-cons p x xs in
    elim (cases_Bool (p x)) [
      | inl passes ↦
          let none = count_none p xs (λ y c. elim (cases_Bool (p y)) [ inl also ↦ absurd (AllPairs-head R x xs h y c passes also) | inr fails ↦ fails ]) in
          omega (arith, whole, none, one_at_most (p x))
      | inr fails ↦ omega (arith, whole, none_if (p x) fails, count_one p xs (AllPairs-tail R x xs h))
    ]

keeps_one : {X : Type 0} (p : X → Bool) (x : X) (xs : List X) → length (filter p xs) ≤ length (filter p (x ∷ xs))
keeps_one {X} p x xs = elim (cases_Bool (p x)) [
  | inl passes ↦ omega (arith, ap (length {A = X}) (cond-true (p x) (x ∷ filter p xs) (filter p xs) passes))
  | inr fails ↦ omega (arith, ap (length {A = X}) (cond-false (p x) (x ∷ filter p xs) (filter p xs) fails))
]

adds_one : {X : Type 0} (p : X → Bool) (x : X) (xs : List X) → p x ≡ true → suc (length (filter p xs)) ≤ length (filter p (x ∷ xs))
adds_one {X} p x xs passes = omega (arith, ap (length {A = X}) (cond-true (p x) (x ∷ filter p xs) (filter p xs) passes))

pub one_kept : {X : Type 0} (p : X → Bool) (xs : List X) (i : ℕ) (d : X) → i < length xs → p (get_or xs i d) ≡ true → 1 ≤ length (filter p xs)
one_kept p [] i d l e = absurd (omega arith)
one_kept p (x ∷ xs) zero d l e = omega (arith, adds_one p x xs e)
one_kept p (x ∷ xs) (suc i) d l e = omega (arith, keeps_one p x xs, one_kept p xs i d (omega arith) e)

pub two_kept : {X : Type 0} (p : X → Bool) (xs : List X) (i j : ℕ) (d : X) → i < j → j < length xs → p (get_or xs i d) ≡ true → p (get_or xs j d) ≡ true
    → 2 ≤ length (filter p xs)
two_kept p [] i j d l k e f = absurd (omega arith)
two_kept p (x ∷ xs) i zero d l k e f = absurd (omega arith)
two_kept p (x ∷ xs) zero (suc j) d l k e f = omega (arith, adds_one p x xs e, one_kept p xs j d (omega arith) f)
two_kept p (x ∷ xs) (suc i) (suc j) d l k e f = omega (arith, keeps_one p x xs, two_kept p xs i j d (omega arith) (omega arith) e f)
