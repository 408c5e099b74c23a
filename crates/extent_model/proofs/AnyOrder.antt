-- Neither the first gap nor the largest hangs on the order of the extents.
use Rattle.std.proofs.Common.{◌≡◌, ◌⊎◌, inl, inr, ℕ, ◌≤◌, ◌<◌, List, [], ◌∷◌, refl, sym, ap, ap₂, ◌∙◌, subst, Bool, true, false, cond, map, arith}
use Rattle.std.specs.Prelude.{Option, Some, None, nat_le, ◌||◌, ◌-◌, min, max, if◌then◌else◌, filter, fold}
use Rattle.std.specs.List.{AllByRecursion, list_any}
use Rattle.std.specs.List.Sorted.{IsPermutation}
use Rattle.std.proofs.lemmas.List.Elements.{recursion_from_All, All-from_recursion}
use Rattle.std.proofs.lemmas.List.Sorted.{All-permutation, IsPermutation-sym}
use Rattle.extent_model.specs.Extents.{Extent, end_of, first_table_page}
use Rattle.extent_model.specs.Gaps.{has_page, next_taken, room_at, gap_starts, least, first_gap, largest_gap}
use Rattle.extent_model.proofs.Free.{fold_has}

-- ---- what all of a list have

-- whatever all of xs have, all of ys have
abbrev Covers : {X : Type 0} → List X → List X → Type 1
Covers {X} xs ys = (P : X → Type 0) → AllByRecursion P xs → AllByRecursion P ys

covers_of : {X : Type 0} (xs ys : List X) → IsPermutation xs ys → Covers xs ys
covers_of xs ys moved P all = recursion_from_All P ys (All-permutation P xs ys moved (All-from_recursion P xs all))

map_all : {X Y : Type 0} (P : Y → Type 0) (f : X → Y) (xs : List X) → AllByRecursion (λ x. P (f x)) xs → AllByRecursion P (map f xs)
map_all P f [] all = tt
map_all P f (x ∷ xs) all = (all.0, map_all P f xs all.1)

of_map : {X Y : Type 0} (P : Y → Type 0) (f : X → Y) (xs : List X) → AllByRecursion P (map f xs) → AllByRecursion (λ x. P (f x)) xs
of_map P f [] all = tt
of_map P f (x ∷ xs) all = (all.0, of_map P f xs all.1)

filter_all : {X : Type 0} (P : X → Type 0) (test : X → Bool) (xs : List X) → AllByRecursion (λ x. test x ≡ true → P x) xs → AllByRecursion P (filter test xs)
filter_all P test [] all = tt
filter_all P test (x ∷ xs) all = elim (test x) as (λ b. test x ≡ b → AllByRecursion P (cond b (x ∷ filter test xs) (filter test xs))) [
  | true ↦ λ e. (all.0 e, filter_all P test xs all.1)
  | false ↦ λ _. filter_all P test xs all.1
] refl

not_both : (b : Bool) → b ≡ false → b ≡ true → ⊥
not_both b off on = let bad : false ≡ true = sym off ∙ on in cc

pub of_filter : {X : Type 0} (P : X → Type 0) (test : X → Bool) (xs : List X) → AllByRecursion P (filter test xs) → AllByRecursion (λ x. test x ≡ true → P x) xs
of_filter P test [] all = tt
of_filter P test (x ∷ xs) all = elim (test x) as (λ b. test x ≡ b → AllByRecursion P (cond b (x ∷ filter test xs) (filter test xs)) → AllByRecursion (λ x. test x ≡ true → P x) (x ∷ xs)) [
  | true ↦ λ _ kept. (λ _. kept.0, of_filter P test xs kept.1)
  | false ↦ λ off kept. (λ on. absurd (not_both (test x) off on), of_filter P test xs kept)
] refl all

covers_map : {X Y : Type 0} (f : X → Y) (xs ys : List X) → Covers xs ys → Covers (map f xs) (map f ys)
covers_map f xs ys covers P all = map_all P f ys (covers (λ x. P (f x)) (of_map P f xs all))

covers_filter : {X : Type 0} (test : X → Bool) (xs ys : List X) → Covers xs ys → Covers (filter test xs) (filter test ys)
covers_filter test xs ys covers P all = filter_all P test ys (covers (λ x. test x ≡ true → P x) (of_filter P test xs all))

-- ---- whether any is so

none_is : {X : Type 0} (test : X → Bool) (xs : List X) → list_any test xs ≡ false → AllByRecursion (λ x. test x ≡ false) xs
none_is test [] e = tt
none_is test (x ∷ xs) e = elim (test x) as (λ b. test x ≡ b → (b || list_any test xs) ≡ false → AllByRecursion (λ x. test x ≡ false) (x ∷ xs)) [
  | true ↦ λ _ bad. absurd cc
  | false ↦ λ off rest. (off, none_is test xs rest)
] refl e

is_none : {X : Type 0} (test : X → Bool) (xs : List X) → AllByRecursion (λ x. test x ≡ false) xs → list_any test xs ≡ false
is_none test [] all = refl
is_none test (x ∷ xs) all = ap (λ (b : Bool). b || list_any test xs) all.0 ∙ is_none test xs all.1

same_bool : (a b : Bool) → (a ≡ false → b ≡ false) → (b ≡ false → a ≡ false) → a ≡ b
same_bool true true there back = refl
same_bool true false there back = back refl
same_bool false true there back = sym (there refl)
same_bool false false there back = refl

any_same : {X : Type 0} (test : X → Bool) (xs ys : List X) → Covers xs ys → Covers ys xs → list_any test xs ≡ list_any test ys
any_same test xs ys there back = same_bool (list_any test xs) (list_any test ys)
    (λ e. is_none test ys (there (λ x. test x ≡ false) (none_is test xs e)))
    (λ e. is_none test xs (back (λ x. test x ≡ false) (none_is test ys e)))

-- ---- the least and the greatest of some numbers

min_first : (n m l : ℕ) → l ≤ min n m → (l ≤ n) × (l ≤ m)
min_first n m l less = (omega arith, omega arith)

pub fold_below : (n : ℕ) (xs : List ℕ) → (fold min n xs ≤ n) × AllByRecursion (λ x. fold min n xs ≤ x) xs
fold_below n [] = (omega arith, tt)
fold_below n (x ∷ xs) = let rest = fold_below (min n x) xs in let parts = min_first n x (fold min (min n x) xs) rest.0 in (parts.0, (parts.1, rest.1))

-- a bound of all is a bound of the least
min_same : (n : ℕ) (xs ys : List ℕ) → Covers xs ys → Covers ys xs → fold min n xs ≡ fold min n ys
min_same n xs ys there back =
    let own = fold_below n xs in let other = fold_below n ys in
    let up : fold min n xs ≤ fold min n ys = fold_has (λ m. fold min n xs ≤ m) n ys own.0 (there (λ m. fold min n xs ≤ m) own.1) in
    let down : fold min n ys ≤ fold min n xs = fold_has (λ m. fold min n ys ≤ m) n xs other.0 (back (λ m. fold min n ys ≤ m) other.1) in
    omega (arith, up, down)

least_same : (xs ys : List ℕ) → Covers xs ys → Covers ys xs → least xs ≡ least ys
least_same [] [] there back = refl
least_same [] (y ∷ ys) there back = absurd (there (λ _. ⊥) tt).0
least_same (x ∷ xs) [] there back = absurd (back (λ _. ⊥) tt).0
least_same (x ∷ xs) (y ∷ ys) there back =
    let own = fold_below x xs in let other = fold_below y ys in
    let to_y = there (λ m. fold min x xs ≤ m) (own.0, own.1) in
    let to_x = back (λ m. fold min y ys ≤ m) (other.0, other.1) in
    let up : fold min x xs ≤ fold min y ys = fold_has (λ m. fold min x xs ≤ m) y ys to_y.0 to_y.1 in
    let down : fold min y ys ≤ fold min x xs = fold_has (λ m. fold min y ys ≤ m) x xs to_x.0 to_x.1 in
    let same : fold min x xs ≡ fold min y ys = omega (arith, up, down) in
    ap (λ (n : ℕ). Some n) same

max_first : (n m l : ℕ) → max n m ≤ l → (n ≤ l) × (m ≤ l)
max_first n m l less = (omega arith, omega arith)

fold_above : (n : ℕ) (xs : List ℕ) → (n ≤ fold max n xs) × AllByRecursion (λ x. x ≤ fold max n xs) xs
fold_above n [] = (omega arith, tt)
fold_above n (x ∷ xs) = let rest = fold_above (max n x) xs in let parts = max_first n x (fold max (max n x) xs) rest.0 in (parts.0, (parts.1, rest.1))

most_within : (n most : ℕ) (xs : List ℕ) → n ≤ most → AllByRecursion (λ x. x ≤ most) xs → fold max n xs ≤ most
most_within n most [] own all = own
most_within n most (x ∷ xs) own all = most_within (max n x) most xs (omega (arith, own, all.0)) all.1

most_same : (n : ℕ) (xs ys : List ℕ) → Covers xs ys → Covers ys xs → fold max n xs ≡ fold max n ys
most_same n xs ys there back =
    let own = fold_above n xs in let other = fold_above n ys in
    let up : fold max n xs ≤ fold max n ys = most_within n (fold max n ys) xs other.0 (back (λ x. x ≤ fold max n ys) other.1) in
    let down : fold max n ys ≤ fold max n xs = most_within n (fold max n xs) ys own.0 (there (λ x. x ≤ fold max n xs) own.1) in
    omega (arith, up, down)

-- ---- gaps

-- extents of which each list covers the other leave the same room
room_same : (pages page : ℕ) (xs ys : List Extent) → Covers xs ys → Covers ys xs → room_at pages xs page ≡ room_at pages ys page
room_same pages page xs ys there back =
    let starts = λ (l : List Extent). map (λ (e : Extent). e.0) (filter (λ (e : Extent). nat_le page e.0) l) in
    let next = min_same pages (starts xs) (starts ys)
    (covers_map (λ (e : Extent). e.0) (filter (λ (e : Extent). nat_le page e.0) xs) (filter (λ (e : Extent). nat_le page e.0) ys) (covers_filter (λ (e : Extent). nat_le page e.0) xs ys there))
    (covers_map (λ (e : Extent). e.0) (filter (λ (e : Extent). nat_le page e.0) ys) (filter (λ (e : Extent). nat_le page e.0) xs) (covers_filter (λ (e : Extent). nat_le page e.0) ys xs back)) in
    ap₂ (λ (t : Bool) (n : ℕ). if t then 0 else n - page) (any_same (has_page page) xs ys there back) next

covers_starts : (xs ys : List Extent) → Covers xs ys → Covers (gap_starts xs) (gap_starts ys)
covers_starts xs ys covers P all = (all.0, covers_map end_of xs ys covers P all.1)

-- numbers that pass, where two tests agree
covers_passed : (f g : ℕ → Bool) (xs ys : List ℕ) → ((n : ℕ) → f n ≡ g n) → Covers xs ys → Covers (filter f xs) (filter g ys)
covers_passed f g xs ys same covers P all = filter_all P g ys (turned ys (covers (λ x. f x ≡ true → P x) (of_filter P f xs all)))
  where
    turned : (ys : List ℕ) → AllByRecursion (λ x. f x ≡ true → P x) ys → AllByRecursion (λ x. g x ≡ true → P x) ys
    turned [] all = tt
    turned (y ∷ more) all = (λ on. all.0 (same y ∙ on), turned more all.1)

covers_rooms : (f g : ℕ → ℕ) (xs ys : List ℕ) → ((n : ℕ) → f n ≡ g n) → Covers xs ys → Covers (map f xs) (map g ys)
covers_rooms f g xs ys same covers P all = map_all P g ys (turned ys (covers (λ x. P (f x)) (of_map P f xs all)))
  where
    turned : (ys : List ℕ) → AllByRecursion (λ x. P (f x)) ys → AllByRecursion (λ x. P (g x)) ys
    turned [] all = tt
    turned (y ∷ more) all = (subst P (same y) all.0, turned more all.1)

pub first_same : (pages need : ℕ) (xs ys : List Extent) → IsPermutation xs ys → first_gap pages xs need ≡ first_gap pages ys need
first_same pages need xs ys moved =
    let there = covers_of xs ys moved in
    let back = covers_of ys xs (IsPermutation-sym xs ys moved) in
    let fits = λ (l : List Extent) (page : ℕ). nat_le need (room_at pages l page) in
    let same = λ (page : ℕ). ap (nat_le need) (room_same pages page xs ys there back) in
    least_same (filter (fits xs) (gap_starts xs)) (filter (fits ys) (gap_starts ys))
    (covers_passed (fits xs) (fits ys) (gap_starts xs) (gap_starts ys) same (covers_starts xs ys there))
    (covers_passed (fits ys) (fits xs) (gap_starts ys) (gap_starts xs) (λ page. sym (same page)) (covers_starts ys xs back))

pub largest_same : (pages : ℕ) (xs ys : List Extent) → IsPermutation xs ys → largest_gap pages xs ≡ largest_gap pages ys
largest_same pages xs ys moved =
    let there = covers_of xs ys moved in
    let back = covers_of ys xs (IsPermutation-sym xs ys moved) in
    let same = λ (page : ℕ). room_same pages page xs ys there back in
    most_same 0 (map (room_at pages xs) (gap_starts xs)) (map (room_at pages ys) (gap_starts ys))
    (covers_rooms (room_at pages xs) (room_at pages ys) (gap_starts xs) (gap_starts ys) same (covers_starts xs ys there))
    (covers_rooms (room_at pages ys) (room_at pages xs) (gap_starts ys) (gap_starts xs) (λ page. sym (same page)) (covers_starts ys xs back))
