-- Free pages lie in a gap that begins at the last start before them, and it has room for them.
use Rattle.std.proofs.Common.{◌≡◌, ◌⊎◌, inl, inr, ℕ, ◌≤◌, ◌<◌, ◌+◌, List, [], ◌∷◌, refl, sym, ap, ◌∙◌, subst, Bool, true, false, cond, map, arith}
use Rattle.std.specs.Prelude.{Some, None, nat_le, nat_lt, ◌||◌, ◌&&◌, ◌-◌, min, max, if◌then◌else◌, filter, fold}
use Rattle.std.specs.List.{AllByRecursion, list_any}
use Rattle.extent_model.specs.Extents.{Extent, end_of, first_table_page, IsOnDevice, AreApart}
use Rattle.extent_model.specs.Gaps.{has_page, next_taken, room_at, gap_starts, least, first_gap, largest_gap}
use Rattle.extent_model.proofs.AnyOrder.{of_filter, fold_below}
use Rattle.extent_model.proofs.Free.{le_of}
use Rattle.extent_model.proofs.Rooms.{not_le, max_left, max_right, least_none, gap_small}

-- ---- the last start up to a page

abbrev last_start : ℕ → List Extent → ℕ
last_start page [] = first_table_page
last_start page (e ∷ more) = if nat_le (end_of e) page then max (last_start page more) (end_of e) else last_start page more

max_upto : (a b c : ℕ) → a ≤ c → b ≤ c → max a b ≤ c
max_upto a b c x y = grind arith

max_either : (a b : ℕ) → (max a b ≡ a) ⊎ (max a b ≡ b)
max_either a b = elim (nat_le a b) as (λ t. nat_le a b ≡ t → (max a b ≡ a) ⊎ (max a b ≡ b)) [ true ↦ λ e. inr (grind arith) | false ↦ λ e. inl (grind arith) ] refl

max_has : (P : ℕ → Type 0) (a b : ℕ) → P a → P b → P (max a b)
max_has P a b in_a in_b = elim (max_either a b) [ inl e ↦ subst P (sym e) in_a | inr e ↦ subst P (sym e) in_b ]

not_under : (m n : ℕ) → nat_le m n ≡ false → m ≤ n → ⊥
not_under m n off l = let over = not_le m n off in omega (arith, over, l)

last_upto : (page : ℕ) (xs : List Extent) → first_table_page ≤ page → last_start page xs ≤ page
last_upto page [] from = from
last_upto page (e ∷ more) from =
    let rest = last_upto page more from in
    elim (nat_le (end_of e) page) as (λ b. nat_le (end_of e) page ≡ b → cond b (max (last_start page more) (end_of e)) (last_start page more) ≤ page) [
      | true ↦ λ le. max_upto (last_start page more) (end_of e) page rest (le_of (end_of e) page le)
      | false ↦ λ _. rest
    ] refl

-- it is one of the starts
last_has : (P : ℕ → Type 0) (page : ℕ) (xs : List Extent) → P first_table_page → AllByRecursion P (map end_of xs) → P (last_start page xs)
last_has P page [] own all = own
last_has P page (e ∷ more) own all =
    let rest = last_has P page more own all.1 in
    elim (nat_le (end_of e) page) as (λ b. P (cond b (max (last_start page more) (end_of e)) (last_start page more))) [
      | true ↦ max_has P (last_start page more) (end_of e) rest all.0
      | false ↦ rest
    ]

abbrev EndsBefore : ℕ → ℕ → Extent → Type 0
EndsBefore page start e = end_of e ≤ page → end_of e ≤ start

-- and no start up to the page is behind it
last_covers : (page start : ℕ) (xs : List Extent) → last_start page xs ≤ start → AllByRecursion (EndsBefore page start) xs
last_covers page start [] within = tt
last_covers page start (e ∷ more) within =
    elim (nat_le (end_of e) page) as (λ b. nat_le (end_of e) page ≡ b → cond b (max (last_start page more) (end_of e)) (last_start page more) ≤ start
    → AllByRecursion (EndsBefore page start) (e ∷ more)) [
      | true ↦ λ _ l. (λ _. max_right (last_start page more) (end_of e) start l, last_covers page start more (max_left (last_start page more) (end_of e) start l))
      | false ↦ λ off l. (λ under. absurd (not_under (end_of e) page off under), last_covers page start more l)
    ] refl within

-- ---- its room

ahead : (start first end : ℕ) → start < first → (nat_le first start && nat_lt start end) ≡ false
ahead start first end l = grind arith

passed : (start first end : ℕ) → end ≤ start → (nat_le first start && nat_lt start end) ≡ false
passed start first end l = grind arith

not_there : (page n start : ℕ) (e : Extent) → 0 < n → start ≤ page → AreApart (page, n) e → EndsBefore page start e → has_page start e ≡ false
not_there page n start e some up (inl far) ends = ahead start e.0 (end_of e) (omega (arith, some, up, far))
not_there page n start e some up (inr near) ends = passed start e.0 (end_of e) (ends near)

far_off : (pages page n start : ℕ) (e : Extent) → IsOnDevice pages e → AreApart (page, n) e → EndsBefore page start e → start ≤ e.0 → page + n ≤ e.0
far_off pages page n start e on (inl far) ends l = far
far_off pages page n start e on (inr near) ends l = let gone : e.0 + e.1 ≤ start = ends near in absurd (omega (arith, on.some, gone, l))

min_upto : (a b c : ℕ) → c ≤ a → c ≤ b → c ≤ min a b
min_upto a b c x y = grind arith

or_none : (a b : Bool) → a ≡ false → b ≡ false → (a || b) ≡ false
or_none a b off none = ap (λ (t : Bool). t || b) off ∙ none

free_on : (pages limit page n start : ℕ) (xs : List Extent) → 0 < n → start ≤ page → page + n ≤ limit → AllByRecursion (IsOnDevice pages) xs
    → AllByRecursion (AreApart (page, n)) xs → AllByRecursion (EndsBefore page start) xs
    → (list_any (has_page start) xs ≡ false) × (page + n ≤ next_taken limit xs start)
free_on pages limit page n start [] some up to on apart ends = (refl, to)
free_on pages limit page n start (e ∷ more) some up to on apart ends =
    let later = filter (λ (e : Extent). nat_le start e.0) more in
    let off = not_there page n start e some up apart.0 ends.0 in
    let rest = free_on pages limit page n start more some up to on.1 apart.1 ends.1 in (
      or_none (has_page start e) (list_any (has_page start) more) off rest.0,
      elim (nat_le start e.0) as (λ b. nat_le start e.0 ≡ b → page + n ≤ fold min limit (map (λ (e : Extent). e.0) (cond b (e ∷ later) later))) [
        | true ↦ λ le.
            let far = far_off pages page n start e on.0 apart.0 ends.0 (le_of start e.0 le) in
            (free_on pages (min limit e.0) page n start more some up (min_upto limit e.0 (page + n) to far) on.1 apart.1 ends.1).1
        | false ↦ λ _. rest.1
      ] refl,
    )

le_true : (m n : ℕ) → m ≤ n → nat_le m n ≡ true
le_true m n l = grind arith

left_room : (page n start next : ℕ) → start ≤ page → page + n ≤ next → n ≤ next - start
left_room page n start next up to = omega arith

module _ (pages page n : ℕ) (xs : List Extent) (here : IsOnDevice pages (page, n)) (on : AllByRecursion (IsOnDevice pages) xs) (apart : AllByRecursion (AreApart (page, n)) xs) where
  up : last_start page xs ≤ page
  up = last_upto page xs here.from

  same_start : (m : ℕ) → m ≤ m
  same_start m = omega arith

  has_room : nat_le n (room_at pages xs (last_start page xs)) ≡ true
  has_room =
      let free = free_on pages pages page n (last_start page xs) xs here.some up here.to on apart (last_covers page (last_start page xs) xs (same_start (last_start page xs))) in
      let next = next_taken pages xs (last_start page xs) in
      ap (λ (b : Bool). nat_le n (cond b 0 (next - last_start page xs))) free.0
      ∙ le_true n (next - last_start page xs) (left_room page n (last_start page xs) next up free.1)

  -- what all starts with room have, this one has
  at_start : (P : ℕ → Type 0) → AllByRecursion P (filter (λ page. nat_le n (room_at pages xs page)) (gap_starts xs)) → P (last_start page xs)
  at_start P all =
      let fits = λ (p : ℕ). nat_le n (room_at pages xs p) in
      let each = of_filter P fits (gap_starts xs) all in
      last_has (λ p. fits p ≡ true → P p) page xs each.0 each.1 has_room

none_below : (P : ℕ → Type 0) (xs : List ℕ) → xs ≡ [] → AllByRecursion P xs
none_below P [] e = tt
none_below P (x ∷ xs) e = absurd cc

least_below : (xs : List ℕ) (n : ℕ) → least xs ≡ Some n → AllByRecursion (λ x. n ≤ x) xs
least_below [] n e = tt
least_below (x ∷ more) n e = let same : fold min x more ≡ n = cc in subst (λ k. AllByRecursion (λ y. k ≤ y) (x ∷ more)) same (fold_below x more)

pub first_is_first : (pages page n start : ℕ) (xs : List Extent) → IsOnDevice pages (page, n) → AllByRecursion (IsOnDevice pages) xs
    → AllByRecursion (AreApart (page, n)) xs → first_gap pages xs n ≡ Some start → start ≤ page
first_is_first pages page n start xs here on apart e =
    let low = at_start pages page n xs here on apart (λ p. start ≤ p) (least_below (filter (λ page. nat_le n (room_at pages xs page)) (gap_starts xs)) start e) in
    let high = last_upto page xs here.from in
    omega (arith, low, high)

pub largest_is_enough : (pages page n : ℕ) (xs : List Extent) → IsOnDevice pages (page, n) → AllByRecursion (IsOnDevice pages) xs
    → AllByRecursion (AreApart (page, n)) xs → n ≤ largest_gap pages xs
largest_is_enough pages page n xs here on apart =
    elim (nat_le n (largest_gap pages xs)) as (λ b. nat_le n (largest_gap pages xs) ≡ b → n ≤ largest_gap pages xs) [
      | true ↦ λ le. le_of n (largest_gap pages xs) le
      | false ↦ λ off.
          let none = least_none (filter (λ page. nat_le n (room_at pages xs page)) (gap_starts xs)) (gap_small pages xs n (not_le n (largest_gap pages xs) off)) in
          absurd (at_start pages page n xs here on apart (λ _. ⊥) (none_below (λ _. ⊥) (filter (λ page. nat_le n (room_at pages xs page)) (gap_starts xs)) none))
    ] refl
