-- A gap is on the device and apart from all extents.
use Rattle.std.proofs.Common.{◌≡◌, ◌⊎◌, inl, inr, ℕ, ◌≤◌, ◌<◌, ◌+◌, List, [], ◌∷◌, refl, sym, subst, Bool, true, false, cond, map, arith}
use Rattle.std.specs.Prelude.{Some, nat_le, nat_lt, ◌||◌, ◌&&◌, ◌-◌, min, filter, fold}
use Rattle.std.specs.List.{AllByRecursion, list_any}
use Rattle.extent_model.specs.Extents.{Extent, end_of, first_table_page, IsOnDevice, AreApart, AreLaid}
use Rattle.extent_model.specs.Gaps.{has_page, next_taken, room_at, gap_starts, least, first_gap}
use Rattle.extent_model.proofs.Lists.{Pairs, pairs_of, all_pairs, Mutual, both, all_kept, all_pass}

-- ---- a gap

or_parts : (a b : Bool) → (a || b) ≡ false → (a ≡ false) × (b ≡ false)
or_parts true b e = absurd cc
or_parts false b e = (refl, e)

pub le_of : (m n : ℕ) → nat_le m n ≡ true → m ≤ n
le_of m n e = grind arith

min_upto : (page need pages first : ℕ) → page + need ≤ min pages first → (page + need ≤ pages) × (page + need ≤ first)
min_upto page need pages first l = (omega arith, omega arith)

behind : (page first end : ℕ) → nat_le page first ≡ false → (nat_le first page && nat_lt page end) ≡ false → end ≤ page
behind page first end e off = grind arith

free_from : (page need pages : ℕ) (xs : List Extent) → list_any (has_page page) xs ≡ false → page + need ≤ next_taken pages xs page
    → (page + need ≤ pages) × AllByRecursion (AreApart (page, need)) xs
free_from page need pages [] off within = (within, tt)
free_from page need pages (e ∷ more) off within =
    let offs = or_parts (has_page page e) (list_any (has_page page) more) off in
    let later = filter (λ (e : Extent). nat_le page e.0) more in
    elim (nat_le page e.0) as (λ b. nat_le page e.0 ≡ b → page + need ≤ fold min pages (map (λ (e : Extent). e.0) (cond b (e ∷ later) later))
    → (page + need ≤ pages) × AllByRecursion (AreApart (page, need)) (e ∷ more)) [
      | true ↦ λ le under.
          let rest = free_from page need (min pages e.0) more offs.1 under in
          let parts = min_upto page need pages e.0 rest.0 in
          (parts.0, (inl parts.1, rest.1))
      | false ↦ λ over under.
          let rest = free_from page need pages more offs.1 under in
          (rest.0, (inr (behind page e.0 (end_of e) over offs.0), rest.1))
    ] refl within

room_within : (pages need page : ℕ) (xs : List Extent) → 0 < need → nat_le need (room_at pages xs page) ≡ true
    → (list_any (has_page page) xs ≡ false) × (page + need ≤ next_taken pages xs page)
room_within pages need page xs some fits =
    elim (list_any (has_page page) xs) as (λ b. list_any (has_page page) xs ≡ b → nat_le need (cond b 0 (next_taken pages xs page - page)) ≡ true
    → (list_any (has_page page) xs ≡ false) × (page + need ≤ next_taken pages xs page)) [
      | true ↦ λ on fits. let l = le_of need 0 fits in absurd (omega arith)
      | false ↦ λ off fits. let l = le_of need (next_taken pages xs page - page) fits in (off, omega arith)
    ] refl fits

min_either : (a b : ℕ) → (min a b ≡ a) ⊎ (min a b ≡ b)
min_either a b = elim (nat_le a b) as (λ t. nat_le a b ≡ t → (min a b ≡ a) ⊎ (min a b ≡ b)) [ true ↦ λ e. inl (grind arith) | false ↦ λ e. inr (grind arith) ] refl

min_has : (P : ℕ → Type 0) (a b : ℕ) → P a → P b → P (min a b)
min_has P a b in_a in_b = elim (min_either a b) [ inl e ↦ subst P (sym e) in_a | inr e ↦ subst P (sym e) in_b ]

pub fold_has : (P : ℕ → Type 0) (n : ℕ) (more : List ℕ) → P n → AllByRecursion P more → P (fold min n more)
fold_has P n [] own all = own
fold_has P n (m ∷ more) own all = fold_has P (min n m) more (min_has P n m own all.0) all.1

-- what all of some numbers have, the least of them has
pub least_has : (P : ℕ → Type 0) (xs : List ℕ) (n : ℕ) → least xs ≡ Some n → AllByRecursion P xs → P n
least_has P [] n e all = absurd cc
least_has P (x ∷ more) n e all = let same : fold min x more ≡ n = cc in subst P same (fold_has P x more all.0 all.1)

ends_from : (pages : ℕ) (xs : List Extent) → AllByRecursion (IsOnDevice pages) xs → AllByRecursion (λ page. first_table_page ≤ page) (map end_of xs)
ends_from pages [] on = tt
ends_from pages (e ∷ more) on = (let from : first_table_page ≤ e.0 = on.0.from in omega arith, ends_from pages more on.1)

-- the first gap is behind manifest and logs, on the device, and apart from what is taken
pub gap_is_free : (pages : ℕ) (xs : List Extent) (need page : ℕ) → 0 < need → AllByRecursion (IsOnDevice pages) xs → first_gap pages xs need ≡ Some page
    → IsOnDevice pages (page, need) × AllByRecursion (AreApart (page, need)) xs
gap_is_free pages xs need page some on e =
    let fits = λ (p : ℕ). nat_le need (room_at pages xs p) in
    let from : AllByRecursion (λ p. first_table_page ≤ p) (gap_starts xs) = (omega arith, ends_from pages xs on) in
    let has = least_has (λ p. (first_table_page ≤ p) × (fits p ≡ true)) (filter fits (gap_starts xs)) page e
    (both (λ p. first_table_page ≤ p) (λ p. fits p ≡ true) (filter fits (gap_starts xs)) (all_kept (λ p. first_table_page ≤ p) fits (gap_starts xs) from) (all_pass fits (gap_starts xs))) in
    let room = room_within pages need page xs some has.1 in
    let free = free_from page need pages xs room.0 room.1 in
    (record { some = some; from = has.0; to = free.0 }, free.1)

-- ---- extents that are laid

-- some extents are on the device, and no two of them meet
abbrev pub Laid : ℕ → List Extent → Type 0
Laid pages xs = AllByRecursion (IsOnDevice pages) xs × Pairs AreApart xs

pub laid_of : (pages : ℕ) (xs : List Extent) → AreLaid pages xs → Laid pages xs
laid_of pages xs are = (are.on_device, pairs_of AreApart xs are.apart)

pub are_laid : (pages : ℕ) (xs : List Extent) → Laid pages xs → AreLaid pages xs
are_laid pages xs laid = record { on_device = laid.0; apart = all_pairs AreApart xs laid.1 }

pub apart_mutual : Mutual AreApart
apart_mutual a b (inl before) = inr before
apart_mutual a b (inr behind) = inl behind
