-- Facts of each element, and of lists as they are put together.
use Rattle.std.proofs.Common.{◌≡◌, ℕ, zero, suc, Bool, true, false, cond, List, [], ◌∷◌, ◌++◌, length, take, drop, map, refl, arith}
use Rattle.std.specs.Prelude.{◌&&◌, filter, flat_map}
use Rattle.std.specs.List.{All, AllByRecursion}
use Rattle.std.proofs.lemmas.List.Elements.{All-cons, All-head, All-nil, All-tail}

pub length-map : {X Y : Type 0} (f : X → Y) (xs : List X) → length (map f xs) ≡ length xs
length-map f [] = refl
length-map f (x ∷ xs) = omega (arith, length-map f xs)

pub first_of : {X : Type 0} (x y : X) (xs ys : List X) → x ∷ xs ≡ y ∷ ys → x ≡ y
first_of x y xs ys e = cc

pub rest_of : {X : Type 0} (x y : X) (xs ys : List X) → x ∷ xs ≡ y ∷ ys → xs ≡ ys
rest_of x y xs ys e = cc

pub never : (t : Bool) → (t && false) ≡ false
never true = refl
never false = refl

-- ---- each

pub all_of : {X : Type 0} (P : X → Type 0) (xs : List X) → AllByRecursion P xs → All P xs
all_of P [] w = All-nil P
all_of P (x ∷ xs) w = All-cons P x xs w.0 (all_of P xs w.1)

pub by_recursion : {X : Type 0} (P : X → Type 0) (xs : List X) → All P xs → AllByRecursion P xs
by_recursion P [] w = tt
by_recursion P (x ∷ xs) w = (All-head P x xs w, by_recursion P xs (All-tail P x xs w))

pub all_map : {X : Type 0} (P Q : X → Type 0) → ((x : X) → P x → Q x) → (xs : List X) → AllByRecursion P xs → AllByRecursion Q xs
all_map P Q f [] w = tt
all_map P Q f (x ∷ xs) w = (f x w.0, all_map P Q f xs w.1)

pub all_append : {X : Type 0} (P : X → Type 0) (xs ys : List X) → AllByRecursion P xs → AllByRecursion P ys → AllByRecursion P (xs ++ ys)
all_append P [] ys v w = w
all_append P (x ∷ xs) ys v w = (v.0, all_append P xs ys v.1 w)

pub all_parts : {X : Type 0} (P : X → Type 0) (xs ys : List X) → AllByRecursion P (xs ++ ys) → AllByRecursion P xs × AllByRecursion P ys
all_parts P [] ys w = (tt, w)
all_parts P (x ∷ xs) ys w = let r = all_parts P xs ys w.1 in ((w.0, r.0), r.1)

pub all_take : {X : Type 0} (P : X → Type 0) (k : ℕ) (xs : List X) → AllByRecursion P xs → AllByRecursion P (take k xs)
all_take P zero xs w = tt
all_take P (suc k) [] w = tt
all_take P (suc k) (x ∷ xs) w = (w.0, all_take P k xs w.1)

pub all_drop : {X : Type 0} (P : X → Type 0) (k : ℕ) (xs : List X) → AllByRecursion P xs → AllByRecursion P (drop k xs)
all_drop P zero xs w = w
all_drop P (suc k) [] w = tt
all_drop P (suc k) (x ∷ xs) w = all_drop P k xs w.1

pub all_filter : {X : Type 0} (P : X → Type 0) (p : X → Bool) (xs : List X) → AllByRecursion P xs → AllByRecursion P (filter p xs)
all_filter P p [] w = tt
all_filter P p (x ∷ xs) w = go (p x) (all_filter P p xs w.1)
  where
    go : (t : Bool) → AllByRecursion P (filter p xs) → AllByRecursion P (cond t (x ∷ filter p xs) (filter p xs))
    go true ih = (w.0, ih)
    go false ih = ih

pub all_kept : {X : Type 0} (p : X → Bool) (xs : List X) → AllByRecursion (λ x. p x ≡ true) (filter p xs)
all_kept p [] = tt
all_kept p (x ∷ xs) = go (p x) refl (all_kept p xs)
  where
    go : (t : Bool) → p x ≡ t → AllByRecursion (λ y. p y ≡ true) (filter p xs) → AllByRecursion (λ y. p y ≡ true) (cond t (x ∷ filter p xs) (filter p xs))
    go true i ih = (i, ih)
    go false i ih = ih

pub all_flat : {X Y : Type 0} (P : Y → Type 0) (f : X → List Y) (xs : List X) → ((x : X) → AllByRecursion P (f x)) → AllByRecursion P (flat_map f xs)
all_flat P f [] w = tt
all_flat P f (x ∷ xs) w = all_append P (f x) (flat_map f xs) (w x) (all_flat P f xs w)
