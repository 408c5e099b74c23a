-- The sleeper that wakes next, as it is found walk by walk.
use Rattle.std.proofs.Common.{◌≡◌, ◌∙◌, ◌+◌, ◌<◌, ◌≤◌, ℕ, zero, suc, List, [], ◌∷◌, length, map, get_or, slice_set, refl, sym, ap, subst, true, false, inl, inr, arith}
use Rattle.std.specs.Prelude.{Option, Some, None}
use Rattle.std.specs.Option.{option_map}
use Rattle.std.proofs.lemmas.Bool.{cases_lt}
use Rattle.std.proofs.lemmas.List.{get_or-map}
use Rattle.key_base.specs.ByteOrder.{is_before}
use Rattle.map_model.specs.SortedMap.{Bytes}
use Rattle.merge_rows.specs.Merges.{numbered, walk_at}
use Rattle.merge_rows.proofs.Keys.{before_of, not_before_back, not_before_itself}
use Rattle.table_file.specs.Opened.{Opened}
use Rattle.late_rows.proofs.Awake.{some_key}
use Rattle.late_rows.proofs.Least.{from_then}
use Rattle.late_rows.specs.Late.{IsKeyFrom, IsNext, IsNextOf, waking_at, walk_in}

-- what is seen of a place
pub seen_at : {A : Type 0} (f : A → Bytes) (asleep : List (Option A)) (at : ℕ) (x : Option A) → at < length asleep → x ≡ get_or asleep at x
    → waking_at (map (λ (o : Option A). option_map f o) asleep) at ≡ option_map f x
seen_at {A} f asleep at x lt is = get_or-map (λ (o : Option A). option_map f o) asleep at x None lt ∙ ap (λ (o : Option A). option_map f o) (sym is)

-- so where the element is known
pub at_key : {A : Type 0} (f : A → Bytes) (asleep : List (Option A)) (at : ℕ) (x y : Option A) → at < length asleep → x ≡ get_or asleep at x → x ≡ y
    → waking_at (map (λ (o : Option A). option_map f o) asleep) at ≡ option_map f y
at_key {A} f asleep at x y lt is same = seen_at f asleep at x lt is ∙ ap (λ (o : Option A). option_map f o) same

-- and where the place is known
pub of_next : (count : ℕ) (asleep : List (Option Bytes)) (o p : Option ℕ) → o ≡ p → IsNextOf count asleep o → IsNextOf count asleep p
of_next count asleep o p same is = subst (IsNextOf count asleep) same is

-- what holds below a number and at it holds below the next one
one_more : (P : ℕ → Type 0) (count : ℕ) → ((at : ℕ) → at < count → P at) → P count → (at : ℕ) → at < count + 1 → P at
one_more P count each here at lt = elim (cases_lt at count) [
  | inl below ↦ each at below
  | inr from ↦ subst P (let same : count ≡ at = omega (arith, lt, from) in same) here
]

one_key : (a b : Bytes) → Some a ≡ Some b → a ≡ b
one_key a b same = cc

key_is : (key : Bytes) (o : Option Bytes) (p : Option Bytes) → o ≡ p → IsKeyFrom key p → IsKeyFrom key o
key_is key o p is from = subst (IsKeyFrom key) (sym is) from

pub next_of_none : (count : ℕ) (asleep : List (Option Bytes)) (next : Option ℕ) → IsNextOf count asleep next → waking_at asleep count ≡ None → IsNextOf (count + 1) asleep next
next_of_none count asleep None each none = one_more (λ at. waking_at asleep at ≡ None) count each none
next_of_none count asleep (Some next) (key, is, from) none = (key, is, one_more (λ at. IsKeyFrom key (waking_at asleep at)) count from (key_is key (waking_at asleep count) None none tt))

pub next_of_first : (count : ℕ) (asleep : List (Option Bytes)) (key : Bytes) → IsNextOf count asleep None → waking_at asleep count ≡ Some key → IsNextOf (count + 1) asleep (Some count)
next_of_first count asleep key each is = (
  key,
  is,
  one_more (λ at. IsKeyFrom key (waking_at asleep at)) count (λ at lt. key_is key (waking_at asleep at) None (each at lt) tt) (key_is key (waking_at asleep count) (Some key) is (not_before_itself key)),
)

pub next_of_later : (count other : ℕ) (asleep : List (Option Bytes)) (key least : Bytes) → IsNextOf count asleep (Some other) → waking_at asleep count ≡ Some key → waking_at asleep other ≡ Some least
    → is_before key least ≡ false → IsNextOf (count + 1) asleep (Some other)
next_of_later count other asleep key least (own, its, from) is has not_so =
    let same : own ≡ least = one_key own least (sym its ∙ has) in (
      own,
      its,
      one_more (λ at. IsKeyFrom own (waking_at asleep at)) count from
          (key_is own (waking_at asleep count) (Some key) is (subst (λ (b : Bytes). is_before key b ≡ false) (sym same) not_so)),
    )

-- what is not below the old one is not below a lesser one
pub lesser_from : (key least : Bytes) (o : Option Bytes) → is_before key least ≡ true → IsKeyFrom least o → IsKeyFrom key o
lesser_from key least None less from = tt
lesser_from key least (Some other) less from = from_then key least other (not_before_back key least (before_of key least less)) from

pub next_of_sooner : (count other : ℕ) (asleep : List (Option Bytes)) (key least : Bytes) → IsNextOf count asleep (Some other) → waking_at asleep count ≡ Some key → waking_at asleep other ≡ Some least
    → is_before key least ≡ true → IsNextOf (count + 1) asleep (Some count)
next_of_sooner count other asleep key least (own, its, from) is has less =
    let same : own ≡ least = one_key own least (sym its ∙ has) in (
      key,
      is,
      one_more (λ at. IsKeyFrom key (waking_at asleep at)) count
          (λ at lt. lesser_from key least (waking_at asleep at) less (subst (λ (b : Bytes). IsKeyFrom b (waking_at asleep at)) same (from at lt)))
          (key_is key (waking_at asleep count) (Some key) is (not_before_itself key)),
    )

-- the one that was found sleeps
pub next_sleeps : {P : Type 0} (count other : ℕ) (asleep : List (Option Bytes)) → IsNextOf count asleep (Some other) → waking_at asleep other ≡ None → P
next_sleeps count other asleep (own, its, from) none = some_key own (sym its ∙ none)

-- behind the last place none sleeps
beyond : (asleep : List (Option Bytes)) (at : ℕ) → length asleep ≤ at → waking_at asleep at ≡ None
beyond [] at le = refl
beyond (o ∷ asleep) zero le = absurd (omega (arith, le))
beyond (o ∷ asleep) (suc at) le = beyond asleep at (omega (arith, le))

pub next_of_all : (count : ℕ) (asleep : List (Option Bytes)) (next : Option ℕ) → length asleep ≤ count → IsNextOf count asleep next → IsNext asleep next
next_of_all count asleep None le each = λ at. elim (cases_lt at (length asleep)) [
  | inl within ↦ each at (omega (arith, within, le))
  | inr past ↦ beyond asleep at past
]
next_of_all count asleep (Some next) le (key, is, from) = (
  key,
  is,
  λ at. elim (cases_lt at (length asleep)) [
    | inl within ↦ from at (omega (arith, within, le))
    | inr past ↦ key_is key (waking_at asleep at) None (beyond asleep at past) tt
  ],
)

-- ---- one that wakes, as it is seen

pub seen_set : {A : Type 0} (f : A → Bytes) (asleep : List (Option A)) (at : ℕ) → map (λ (o : Option A). option_map f o) (slice_set asleep at None) ≡ slice_set (map (λ (o : Option A). option_map f o) asleep) at None
seen_set f [] at = refl
seen_set f (o ∷ asleep) zero = refl
seen_set {A} f (o ∷ asleep) (suc at) = ap (λ (l : List (Option Bytes)). option_map f o ∷ l) (seen_set f asleep at)

-- walks that were made have no entry at hand
pub made_still : (which : List ℕ) (tables : List Opened) (low : Bytes) (at : ℕ)
    → (walk_in (map (λ (number : ℕ). record { number = number; walk = walk_at (numbered tables number) low }) which) at).walk.now ≡ None
made_still [] tables low at = refl
made_still (number ∷ which) tables low zero = of_table (numbered tables number)
  where
    of_table : (o : Option Opened) → (walk_at o low).now ≡ None
    of_table None = refl
    of_table (Some t) = refl
made_still (number ∷ which) tables low (suc at) = made_still which tables low at
