-- Elements of lists and pairs of them, through filters, maps and joins.
use Rattle.std.proofs.Common.{◌≡◌, zero, suc, List, [], ◌∷◌, ◌++◌, ◌⊎◌, Bool, true, get_or, map, refl, sym, ap, subst, ◌∙◌, arith, inl, inr}
use Rattle.std.specs.Prelude.{filter, flat_map}
use Rattle.std.specs.List.{AllPairs, Contains}
use Rattle.std.proofs.lemmas.Bool.{cases_Bool, cond-true, cond-false}
use Rattle.std.proofs.lemmas.List.Elements.{Contains-get_or, Contains-append_left, Contains-append_right, Contains-append_cases}
use Rattle.filter_model.proofs.Stubs.{Contains-more}
use Rattle.filter_model.proofs.Counts.{AllPairs-head, AllPairs-tail}

pub Contains-nil : {X : Type 0} (x : X) → Contains [] x → ⊥
Contains-nil x (i, l, e) = omega arith

pub Contains-first : {X : Type 0} (x : X) (xs : List X) → Contains (x ∷ xs) x
Contains-first x xs = (0, omega arith, refl)

pub Contains-cases : {X : Type 0} (y : X) (ys : List X) (x : X) → Contains (y ∷ ys) x → (y ≡ x) ⊎ Contains ys x
Contains-cases y ys x (zero, l, e) = inl e
Contains-cases y ys x (suc i, l, e) = inr (i, omega arith, e)

pub AllPairs-nil : {X : Type 0} (R : X → X → Type 0) → AllPairs R []
AllPairs-nil R i j d l k = absurd (omega arith)

pub AllPairs-cons : {X : Type 0} (R : X → X → Type 0) (x : X) (xs : List X) → ((y : X) → Contains xs y → R x y) → AllPairs R xs → AllPairs R (x ∷ xs)
AllPairs-cons R x xs h k i zero d l m = absurd (omega arith)
AllPairs-cons R x xs h k zero (suc j) d l m = h (get_or xs j d) (Contains-get_or xs j d (omega arith))
AllPairs-cons R x xs h k (suc i) (suc j) d l m = k i j d (omega arith) (omega arith)

pub AllPairs-append : {X : Type 0} (R : X → X → Type 0) (xs ys : List X) → AllPairs R xs → AllPairs R ys → ((x y : X) → Contains xs x → Contains ys y → R x y) → AllPairs R (xs ++ ys)
AllPairs-append R [] ys h k r = k
AllPairs-append R (x ∷ xs) ys h k r =
    AllPairs-cons R x (xs ++ ys)
    (λ y c. elim (Contains-append_cases xs ys y c) [
      | inl left ↦ AllPairs-head R x xs h y left
      | inr right ↦ r x y (Contains-first x xs) right
    ])
    (AllPairs-append R xs ys (AllPairs-tail R x xs h) k (λ a b c d. r a b (Contains-more x xs a c) d))

-- what a filter keeps is in the list and passes
pub Contains-filter_back : {X : Type 0} (p : X → Bool) (xs : List X) (x : X) → Contains (filter p xs) x → Contains xs x × (p x ≡ true)
Contains-filter_back p [] x c = absurd (Contains-nil x c)
Contains-filter_back {X} p (y ∷ ys) x c = elim (cases_Bool (p y)) [
  | inl kept ↦
      let c' : Contains (y ∷ filter p ys) x = subst (λ (l : List X). Contains l x) (cond-true (p y) (y ∷ filter p ys) (filter p ys) kept) c in
      elim (Contains-cases y (filter p ys) x c') [
        | inl here ↦ ((0, omega arith, here), ap p (sym here) ∙ kept)
        | inr there ↦ let r = Contains-filter_back p ys x there in (Contains-more y ys x r.0, r.1)
      ]
  | inr dropped ↦
      let c' : Contains (filter p ys) x = subst (λ (l : List X). Contains l x) (cond-false (p y) (y ∷ filter p ys) (filter p ys) dropped) c in
      let r = Contains-filter_back p ys x c' in (Contains-more y ys x r.0, r.1)
]

pub Contains-filter : {X : Type 0} (p : X → Bool) (xs : List X) (x : X) → Contains xs x → p x ≡ true → Contains (filter p xs) x
Contains-filter p [] x c e = absurd (Contains-nil x c)
Contains-filter {X} p (y ∷ ys) x c e = elim (Contains-cases y ys x c) [
  | inl here ↦
      subst (λ (l : List X). Contains l x) (sym (cond-true (p y) (y ∷ filter p ys) (filter p ys) (ap p here ∙ e))) (0, omega arith, here)
  | inr there ↦
      let r = Contains-filter p ys x there e in
      elim (cases_Bool (p y)) [
        | inl kept ↦ subst (λ (l : List X). Contains l x) (sym (cond-true (p y) (y ∷ filter p ys) (filter p ys) kept)) (Contains-more y (filter p ys) x r)
        | inr dropped ↦ subst (λ (l : List X). Contains l x) (sym (cond-false (p y) (y ∷ filter p ys) (filter p ys) dropped)) r
      ]
]

pub AllPairs-filter : {X : Type 0} (R : X → X → Type 0) (p : X → Bool) (xs : List X) → AllPairs R xs → AllPairs R (filter p xs)
AllPairs-filter R p [] h = AllPairs-nil R
AllPairs-filter {X} R p (x ∷ xs) h = elim (cases_Bool (p x)) [
  | inl kept ↦
      subst (AllPairs R) (sym (cond-true (p x) (x ∷ filter p xs) (filter p xs) kept))
      (AllPairs-cons R x (filter p xs) (λ y c. AllPairs-head R x xs h y (Contains-filter_back p xs y c).0) (AllPairs-filter R p xs (AllPairs-tail R x xs h)))
  | inr dropped ↦
      subst (AllPairs R) (sym (cond-false (p x) (x ∷ filter p xs) (filter p xs) dropped)) (AllPairs-filter R p xs (AllPairs-tail R x xs h))
]

pub Contains-map : {X Y : Type 0} (f : X → Y) (xs : List X) (x : X) → Contains xs x → Contains (map f xs) (f x)
Contains-map f [] x c = absurd (Contains-nil x c)
Contains-map f (y ∷ ys) x c = elim (Contains-cases y ys x c) [
  | inl here ↦ (0, omega arith, ap f here)
  | inr there ↦ Contains-more (f y) (map f ys) (f x) (Contains-map f ys x there)
]

pub Contains-map_back : {X Y : Type 0} (f : X → Y) (xs : List X) (y : Y) → Contains (map f xs) y → (x : X) × Contains xs x × (f x ≡ y)
Contains-map_back f [] y c = absurd (Contains-nil y c)
Contains-map_back f (x ∷ xs) y c = elim (Contains-cases (f x) (map f xs) y c) [
  | inl here ↦ (x, Contains-first x xs, here)
  | inr there ↦ let r = Contains-map_back f xs y there in (r.0, Contains-more x xs r.0 r.1, r.2)
]

pub Contains-flat_map : {X Y : Type 0} (f : X → List Y) (xs : List X) (x : X) (y : Y) → Contains xs x → Contains (f x) y → Contains (flat_map f xs) y
Contains-flat_map f [] x y c d = absurd (Contains-nil x c)
Contains-flat_map {X} {Y} f (z ∷ xs) x y c d = elim (Contains-cases z xs x c) [
  | inl here ↦ Contains-append_left (f z) (flat_map f xs) y (subst (λ (w : X). Contains (f w) y) (sym here) d)
  | inr there ↦ Contains-append_right (f z) (flat_map f xs) y (Contains-flat_map f xs x y there d)
]

pub Contains-flat_map_back : {X Y : Type 0} (f : X → List Y) (xs : List X) (y : Y) → Contains (flat_map f xs) y → (x : X) × Contains xs x × Contains (f x) y
Contains-flat_map_back f [] y c = absurd (Contains-nil y c)
Contains-flat_map_back f (z ∷ xs) y c = elim (Contains-append_cases (f z) (flat_map f xs) y c) [
  | inl here ↦ (z, Contains-first z xs, here)
  | inr there ↦ let r = Contains-flat_map_back f xs y there in (r.0, Contains-more z xs r.0 r.1, r.2)
]

-- pieces each in order, and each before the pieces of later elements
pub AllPairs-flat_map : {X Y : Type 0} (R : Y → Y → Type 0) (S : X → X → Type 0) (f : X → List Y) (xs : List X) → AllPairs S xs → ((x : X) → Contains xs x → AllPairs R (f x))
    → ((x z : X) (a b : Y) → S x z → Contains (f x) a → Contains (f z) b → R a b) → AllPairs R (flat_map f xs)
AllPairs-flat_map R S f [] h k r = AllPairs-nil R
AllPairs-flat_map R S f (x ∷ xs) h k r =
    AllPairs-append R (f x) (flat_map f xs) (k x (Contains-first x xs))
    (AllPairs-flat_map R S f xs (AllPairs-tail S x xs h) (λ z c. k z (Contains-more x xs z c)) r)
    (λ a b c d. let from = Contains-flat_map_back f xs b d in r x from.0 a b (AllPairs-head S x xs h from.0 from.1) c from.2)
