-- A loop over a list: what is left to look at.
use Rattle.std.proofs.Common.{◌≡◌, ◌<◌, ◌+◌, ◌-◌, ℕ, zero, suc, List, [], ◌∷◌, ◌++◌, ◌||◌, Bool, true, false, cond, Option, Some, None, length, take, drop, refl, sym, ap, append_assoc, ◌∙◌, arith, add-one}
use Rattle.std.specs.Prelude.{count_by, flat_map, slice_get}
use Rattle.std.specs.List.{list_any, position_from}
use Rattle.std.specs.Option.{option_and_then, option_map}
use Rattle.std.proofs.lemmas.Bool.{cond-true, cond-false}
use Rattle.filter_model.specs.Leaves.{Leaf}
use Rattle.plain_filter_model.specs.Reading.{after_leaf, leaf_in, leaf_list_in}
use Rattle.std.proofs.lemmas.List.{append-nil, take_more}
use Rattle.std.proofs.lemmas.List.Concat.{flat_map-append}
use Rattle.std.proofs.lemmas.List.Sums.{sum_by-cons}
use Rattle.std.proofs.lemmas.Option.{get_or_from_slice_get}

pub drop-at : {X : Type 0} (xs : List X) (i : ℕ) (x : X) → slice_get xs i ≡ Some x → drop i xs ≡ x ∷ drop (i + 1) xs
drop-at {X} xs i x e = go xs i e ∙ ap (λ k. x ∷ drop k xs) (sym (add-one i))
  where
    go : (xs : List X) (i : ℕ) → slice_get xs i ≡ Some x → drop i xs ≡ x ∷ drop (suc i) xs
    go [] i e = absurd (cc)
    go (y ∷ ys) zero e = let same : y ≡ x = cc in ap (λ z. z ∷ ys) same
    go (y ∷ ys) (suc i) e = go ys i e

pub any-rest : {X : Type 0} (p : X → Bool) (xs : List X) (i : ℕ) (x : X) → slice_get xs i ≡ Some x → list_any p (drop i xs) ≡ (p x || list_any p (drop (i + 1) xs))
any-rest p xs i x e = ap (list_any p) (drop-at xs i x e)

pub any-rest_false : {X : Type 0} (p : X → Bool) (xs : List X) (i : ℕ) (x : X) → slice_get xs i ≡ Some x → p x ≡ false → list_any p (drop i xs) ≡ list_any p (drop (i + 1) xs)
any-rest_false p xs i x e f = any-rest p xs i x e ∙ ap (λ b. b || list_any p (drop (i + 1) xs)) f

pub any-rest_true : {X : Type 0} (p : X → Bool) (xs : List X) (i : ℕ) (x : X) → slice_get xs i ≡ Some x → p x ≡ true → list_any p (drop i xs) ≡ true
any-rest_true p xs i x e f = any-rest p xs i x e ∙ ap (λ b. b || list_any p (drop (i + 1) xs)) f

pub first-rest_false : {X : Type 0} (p : X → Bool) (xs : List X) (i : ℕ) (x : X) → slice_get xs i ≡ Some x → p x ≡ false
    → position_from p i (drop i xs) ≡ position_from p (i + 1) (drop (i + 1) xs)
first-rest_false p xs i x e f =
    ap (position_from p i) (drop-at xs i x e) ∙ cond-false (p x) (Some i) (position_from p (i + 1) (drop (i + 1) xs)) f

pub first-rest_true : {X : Type 0} (p : X → Bool) (xs : List X) (i : ℕ) (x : X) → slice_get xs i ≡ Some x → p x ≡ true → position_from p i (drop i xs) ≡ Some i
first-rest_true p xs i x e f =
    ap (position_from p i) (drop-at xs i x e) ∙ cond-true (p x) (Some i) (position_from p (i + 1) (drop (i + 1) xs)) f

pub count-rest : {X : Type 0} (p : X → Bool) (xs : List X) (i : ℕ) (x : X) → slice_get xs i ≡ Some x → count_by p (drop i xs) ≡ cond (p x) 1 0 + count_by p (drop (i + 1) xs)
count-rest p xs i x e = ap (count_by p) (drop-at xs i x e) ∙ sum_by-cons (λ y. cond (p y) 1 0) x (drop (i + 1) xs)

pub join-more : {X Y : Type 0} (f : X → List Y) (xs : List X) (i : ℕ) (x : X) → i < length xs → slice_get xs i ≡ Some x → flat_map f (take (i + 1) xs) ≡ flat_map f (take i xs) ++ f x
join-more {X} {Y} f xs i x l e =
    ap (flat_map f) (take_more xs i x l ∙ ap (λ y. take i xs ++ y ∷ []) (get_or_from_slice_get xs i x x e))
    ∙ flat_map-append f (take i xs) (x ∷ []) ∙ ap (λ (r : List Y). flat_map f (take i xs) ++ r) (append-nil (f x))

map_twice : {X : Type 0} (xs : List X) (x : X) (o : Option (List X)) → option_map (λ more. xs ++ more) (option_map (λ ys. x ∷ ys) o) ≡ option_map (λ more. (xs ++ x ∷ []) ++ more) o
map_twice xs x None = refl
map_twice {X} xs x (Some ys) = ap (λ (l : List X). Some l) (sym (append_assoc xs (x ∷ []) ys))

-- one leaf more was read
pub read-more : (n i : ℕ) (bytes rest : List ℕ) (leaves : List Leaf) (l : Leaf) → i < n → leaf_list_in n bytes ≡ option_map (λ more. leaves ++ more) (leaf_list_in (n - i) rest)
    → leaf_in rest ≡ Some l → leaf_list_in n bytes ≡ option_map (λ more. (leaves ++ l ∷ []) ++ more) (leaf_list_in (n - (i + 1)) (after_leaf l rest))
read-more n i bytes rest leaves l h e found =
    let more : n - i ≡ suc (n - (i + 1)) = omega arith in
    e ∙ ap (λ k. option_map (λ m. leaves ++ m) (leaf_list_in k rest)) more
    ∙ ap (λ (o : Option Leaf). option_map (λ m. leaves ++ m) (option_and_then (λ x. option_map (λ ls. x ∷ ls) (leaf_list_in (n - (i + 1)) (after_leaf x rest))) o)) found
    ∙ map_twice leaves l (leaf_list_in (n - (i + 1)) (after_leaf l rest))
