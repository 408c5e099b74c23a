-- Extents in the order of their pages: where one belongs, and what the order says of them.
use Rattle.std.proofs.Common.{◌≡◌, inl, inr, ℕ, zero, suc, ◌<◌, ◌≤◌, List, [], ◌∷◌, length, get_or, refl, sym, ap, ◌∙◌, subst, true, false, arith}
use Rattle.std.specs.Bool.{IsTrue}
use Rattle.std.specs.Prelude.{nat_le, nat_lt}
use Rattle.std.proofs.lemmas.Bool.{cases_lt, le-leb}
use Rattle.std.specs.List.{AllByRecursion, Contains, insert, remove}
use Rattle.std.specs.List.Sorted.{IsNonDecreasingBy, IsPartitionPoint}
use Rattle.extent_model.specs.Extents.{Extent, end_of, IsOnDevice, AreApart, AreLaid}
use Rattle.extent_model.proofs.Free.{are_laid}
use Rattle.extent_model.proofs.Lists.{Pairs}
use Rattle.extent_map.specs.Taken.{Taken, RiseFrom, end_before, first_at}

-- ---- they rise

pub within : (pages page : ℕ) (xs : List Extent) → RiseFrom pages page xs → page ≤ pages
within pages page [] rise = rise
within pages page (x ∷ more) rise = let rest = within pages (end_of x) more rise.2 in omega (arith, rise.0, rest)

pub lower : (pages low page : ℕ) (xs : List Extent) → low ≤ page → RiseFrom pages page xs → RiseFrom pages low xs
lower pages low page [] le rise = omega (arith, le, rise)
lower pages low page (x ∷ more) le rise = (omega (arith, le, rise.0), rise.1, rise.2)

-- each begins at the page or behind it
pub from_page : (pages page : ℕ) (xs : List Extent) → RiseFrom pages page xs → AllByRecursion (λ (x : Extent). page ≤ x.0) xs
from_page pages page [] rise = tt
from_page pages page (x ∷ more) rise = (rise.0, from_page pages page more (lower pages page (end_of x) more (omega (arith, rise.0)) rise.2))

first_from : (pages page : ℕ) (xs : List Extent) → RiseFrom pages page xs → (k : ℕ) (d : Extent) → k < length xs → page ≤ (get_or xs k d).0
first_from pages page [] rise k d lt = absurd (omega arith)
first_from pages page (x ∷ more) rise zero d lt = rise.0
first_from pages page (x ∷ more) rise (suc k) d lt = let rest = first_from pages (end_of x) more rise.2 k d (omega arith) in omega (arith, rise.0, rest)

pub firsts_rise : (pages page : ℕ) (xs : List Extent) → RiseFrom pages page xs → (i j : ℕ) (d : Extent) → i < j → j < length xs → (get_or xs i d).0 < (get_or xs j d).0
firsts_rise pages page [] rise i j d lt inside = absurd (omega arith)
firsts_rise pages page (x ∷ more) rise i zero d lt inside = absurd (omega arith)
firsts_rise pages page (x ∷ more) rise zero (suc j) d lt inside = let rest = first_from pages (end_of x) more rise.2 j d (omega arith) in omega (arith, rise.1, rest)
firsts_rise pages page (x ∷ more) rise (suc i) (suc j) d lt inside = firsts_rise pages (end_of x) more rise.2 i j d (omega arith) (omega arith)

pub never_fall : (pages page : ℕ) (xs : List Extent) → RiseFrom pages page xs → IsNonDecreasingBy (λ (x : Extent). x.0) xs
never_fall pages page xs rise i j d le inside = elim (cases_lt i j) [
  | inl lt ↦ let up = firsts_rise pages page xs rise i j d lt inside in omega (arith, up)
  | inr ge ↦ let same : i ≡ j = omega arith in let e = ap (λ (k : ℕ). (get_or xs k d).0) same in omega (arith, e)
]

-- ---- one more, and one less

abbrev pub IsPlaceOf : ℕ → List Extent → ℕ → Type 0
IsPlaceOf first xs place = IsPartitionPoint (λ (x : Extent). x.0 < first) (λ (x : Extent). first ≤ x.0) xs place

pub with_one : (pages page i : ℕ) (xs : List Extent) (e : Extent) → i ≤ length xs → RiseFrom pages page xs → IsPlaceOf e.0 xs i → page ≤ e.0 → 0 < e.1
    → end_of e ≤ pages → AllByRecursion (AreApart e) xs → RiseFrom pages page (insert xs i e)
with_one pages page zero [] e le rise place from some upto apart = (from, some, upto)
with_one pages page (suc i) [] e le rise place from some upto apart = absurd (omega arith)
with_one pages page zero (x ∷ more) e le rise place from some upto apart =
    let behind = place.1 0 x (omega arith) (omega arith) in
    (from, some, (elim apart.0 [ inl before ↦ before | inr after ↦ absurd (omega (arith, behind, after, rise.1)) ], rise.1, rise.2))
with_one pages page (suc i) (x ∷ more) e le rise place from some upto apart =
    let before = place.0 0 x (omega arith) (omega arith) in
    let behind : end_of x ≤ e.0 = elim apart.0 [ inl first ↦ absurd (omega (arith, before, first, some)) | inr after ↦ after ] in (
      rise.0,
      rise.1,
      with_one pages (end_of x) i more e (omega arith) rise.2
          (λ k d low high. place.0 (suc k) d (omega arith) (omega arith), λ k d low high. place.1 (suc k) d (omega arith) (omega arith)) behind some upto apart.1,
    )

pub without_one : (pages page i : ℕ) (xs : List Extent) → i < length xs → RiseFrom pages page xs → RiseFrom pages page (remove xs i)
without_one pages page i [] lt rise = absurd (omega arith)
without_one pages page zero (x ∷ more) lt rise = lower pages page (end_of x) more (omega (arith, rise.0)) rise.2
without_one pages page (suc i) (x ∷ more) lt rise = (rise.0, rise.1, without_one pages (end_of x) i more (omega arith) rise.2)

-- where an extent of the list belongs, it stands
pub stands_at : (pages page i : ℕ) (xs : List Extent) (e : Extent) → RiseFrom pages page xs → IsPlaceOf e.0 xs i → Contains xs e → (i < length xs) × (e ≡ get_or xs i e)
stands_at pages page i xs e rise place has =
    let k = has.0 in
    let is : (get_or xs k e).0 ≡ e.0 = ap (λ (x : Extent). x.0) has.2 in
    let up : i ≤ k = elim (cases_lt k i) [ inl lt ↦ let l = place.0 k e (omega arith) lt in absurd (omega (arith, l, is)) | inr ge ↦ ge ] in
    let down : k ≤ i = elim (cases_lt i k) [
      | inl lt ↦ let l = place.1 i e (omega arith) (omega (arith, lt, has.1)) in let r = firsts_rise pages page xs rise i k e lt has.1 in absurd (omega (arith, l, r, is))
      | inr ge ↦ ge
    ] in
    let same : k ≡ i = omega (arith, up, down) in
    (omega (arith, has.1, down, up), sym has.2 ∙ ap (λ (j : ℕ). get_or xs j e) same)

-- ---- free pages

pub behind_last : (page k : ℕ) (xs : List Extent) (d : Extent) → k < length xs → end_before page xs (suc k) ≡ end_of (get_or xs k d)
behind_last page k [] d lt = absurd (omega arith)
behind_last page zero (x ∷ more) d lt = refl
behind_last page (suc k) (x ∷ more) d lt = behind_last (end_of x) k more d (omega arith)

pub first_there : (pages place : ℕ) (xs : List Extent) (d : Extent) → place < length xs → first_at pages xs place ≡ (get_or xs place d).0
first_there pages place [] d lt = absurd (omega arith)
first_there pages zero (x ∷ more) d lt = refl
first_there pages (suc place) (x ∷ more) d lt = first_there pages place more d (omega arith)

pub none_there : (pages place : ℕ) (xs : List Extent) → length xs ≤ place → first_at pages xs place ≡ pages
none_there pages place [] le = refl
none_there pages zero (x ∷ more) le = absurd (omega arith)
none_there pages (suc place) (x ∷ more) le = none_there pages place more (omega arith)

pub end_upto : (pages page k : ℕ) (xs : List Extent) (d : Extent) → RiseFrom pages page xs → k < length xs → end_of (get_or xs k d) ≤ pages
end_upto pages page k [] d rise lt = absurd (omega arith)
end_upto pages page zero (x ∷ more) d rise lt = within pages (end_of x) more rise.2
end_upto pages page (suc k) (x ∷ more) d rise lt = end_upto pages (end_of x) k more d rise.2 (omega arith)

all_later : (end : ℕ) (e : Extent) (xs : List Extent) → end_of e ≤ end → AllByRecursion (λ (x : Extent). end ≤ x.0) xs → AllByRecursion (AreApart e) xs
all_later end e [] le all = tt
all_later end e (x ∷ more) le all = (inl (omega (arith, le, all.0)), all_later end e more le all.1)

pub free_there : (pages page i : ℕ) (xs : List Extent) (e : Extent) → RiseFrom pages page xs → IsPlaceOf e.0 xs i → 0 < e.1 → end_before page xs i ≤ e.0 → end_of e ≤ first_at pages xs i
    → (page ≤ e.0) × (end_of e ≤ pages) × AllByRecursion (AreApart e) xs
free_there pages page zero [] e rise place some from to = (from, to, tt)
free_there pages page (suc i) [] e rise place some from to = (from, to, tt)
free_there pages page zero (x ∷ more) e rise place some from to =
    let upto = within pages (end_of x) more rise.2 in
    (from, omega (arith, to, upto), (inl to, all_later x.0 e more to (from_page pages x.0 more (lower pages x.0 (end_of x) more (omega arith) rise.2))))
free_there pages page (suc i) (x ∷ more) e rise place some from to =
    let rest = free_there pages (end_of x) i more e rise.2 (λ k d low high. place.0 (suc k) d (omega arith) (omega arith), λ k d low high. place.1 (suc k) d (omega arith) (omega arith)) some from to in
    (omega (arith, rise.0, rest.0), rest.1, (inr rest.0, rest.2))

pub there_free : (pages page i : ℕ) (xs : List Extent) (e : Extent) → RiseFrom pages page xs → IsPlaceOf e.0 xs i → i ≤ length xs → 0 < e.1 → page ≤ e.0 → end_of e ≤ pages
    → AllByRecursion (AreApart e) xs → (end_before page xs i ≤ e.0) × (end_of e ≤ first_at pages xs i)
there_free pages page zero [] e rise place le some from to apart = (from, to)
there_free pages page (suc i) [] e rise place le some from to apart = absurd (omega arith)
there_free pages page zero (x ∷ more) e rise place le some from to apart =
    let behind = place.1 0 x (omega arith) (omega arith) in
    (from, elim apart.0 [ inl before ↦ before | inr after ↦ absurd (omega (arith, behind, after, rise.1)) ])
there_free pages page (suc i) (x ∷ more) e rise place le some from to apart =
    let before = place.0 0 x (omega arith) (omega arith) in
    let behind : end_of x ≤ e.0 = elim apart.0 [ inl first ↦ absurd (omega (arith, before, first, some)) | inr after ↦ after ] in
    there_free pages (end_of x) i more e rise.2 (λ k d low high. place.0 (suc k) d (omega arith) (omega arith), λ k d low high. place.1 (suc k) d (omega arith) (omega arith)) (omega arith) some behind to apart.1

-- whether pages are free is told by the extents before and behind them
pub told : (t : Taken) (i from to : ℕ) (e : Extent) → RiseFrom t.pages 192 t.extents → IsPlaceOf e.0 t.extents i → i ≤ length t.extents → 0 < e.1
    → from ≡ end_before 192 t.extents i → to ≡ first_at t.pages t.extents i → from ≤ e.0
    → (IsTrue (nat_le (end_of e) to) → IsOnDevice t.pages e × AllByRecursion (AreApart e) t.extents)
    × (IsOnDevice t.pages e × AllByRecursion (AreApart e) t.extents → IsTrue (nat_le (end_of e) to))
told t i from to e rise place le some is_from is_to low = (
  λ high.
      let upto : end_of e ≤ to = grind (arith, high) in
      let free = free_there t.pages 192 i t.extents e rise place some (omega (arith, is_from, low)) (omega (arith, is_to, upto)) in
      (record { some = some; from = free.0; to = free.1 }, free.2),
  λ free.
      let there = there_free t.pages 192 i t.extents e rise place le some free.0.from free.0.to free.1 in
      le-leb (end_of e) to (omega (arith, there.1, is_to)),
)

pub not_told : (t : Taken) (i from : ℕ) (e : Extent) → RiseFrom t.pages 192 t.extents → IsPlaceOf e.0 t.extents i → i ≤ length t.extents → 0 < e.1
    → from ≡ end_before 192 t.extents i → e.0 < from
    → (IsTrue (nat_le from e.0) → IsOnDevice t.pages e × AllByRecursion (AreApart e) t.extents)
    × (IsOnDevice t.pages e × AllByRecursion (AreApart e) t.extents → IsTrue (nat_le from e.0))
not_told t i from e rise place le some is_from over = (
  λ low. let l : from ≤ e.0 = grind (arith, low) in absurd (omega (arith, l, over)),
  λ free. let there = there_free t.pages 192 i t.extents e rise place le some free.0.from free.0.to free.1 in absurd (omega (arith, there.0, is_from, over)),
)

-- ---- they are laid

on_device : (pages page : ℕ) (xs : List Extent) → 192 ≤ page → RiseFrom pages page xs → AllByRecursion (IsOnDevice pages) xs
on_device pages page [] from rise = tt
on_device pages page (x ∷ more) from rise =
    (record { some = rise.1; from = omega (arith, from, rise.0); to = within pages (end_of x) more rise.2 }, on_device pages (end_of x) more (omega (arith, from, rise.0)) rise.2)

all_behind : (x : Extent) (xs : List Extent) → AllByRecursion (λ (y : Extent). end_of x ≤ y.0) xs → AllByRecursion (AreApart x) xs
all_behind x [] all = tt
all_behind x (y ∷ more) all = (inl all.0, all_behind x more all.1)

apart : (pages page : ℕ) (xs : List Extent) → RiseFrom pages page xs → Pairs AreApart xs
apart pages page [] rise = tt
apart pages page (x ∷ more) rise = (all_behind x more (from_page pages (end_of x) more rise.2), apart pages (end_of x) more rise.2)

pub laid : (pages : ℕ) (xs : List Extent) → RiseFrom pages 192 xs → AreLaid pages xs
laid pages xs rise = are_laid pages xs (on_device pages 192 xs (omega arith) rise, apart pages 192 xs rise)

-- a place found by tests
pub place_from_tests : (first place : ℕ) (xs ys : List Extent) → xs ≡ ys → IsPartitionPoint (λ (x : Extent). nat_lt x.0 first ≡ true) (λ (x : Extent). nat_lt x.0 first ≡ false) xs place
    → IsPlaceOf first ys place
place_from_tests first place xs ys is point =
    subst (λ (zs : List Extent). IsPlaceOf first zs place) is
    (λ k d low high. below (get_or xs k d).0 (point.0 k d low high), λ k d low high. above (get_or xs k d).0 (point.1 k d low high))
  where
    below : (n : ℕ) → nat_lt n first ≡ true → n < first
    below n e = grind arith

    above : (n : ℕ) → nat_lt n first ≡ false → first ≤ n
    above n e = grind arith
