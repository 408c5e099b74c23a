-- Whether there is a gap does not hang on the order of the extents.
use Rattle.std.proofs.Common.{◌≡◌, ℕ, List, [], ◌∷◌, ◌++◌, refl, sym, ap, ap₂, ◌∙◌, subst, Bool, true, false, cond, arith, map}
use Rattle.std.specs.Prelude.{None, nat_le, min, ◌||◌, ◌-◌, if◌then◌else◌, filter, fold}
use Rattle.std.specs.List.{list_any}
use Rattle.std.proofs.lemmas.List.{append_assoc, append-nil}
use Rattle.table_model.specs.Tables.{Table}
use Rattle.extent_model.specs.Extents.{Extent, end_of, first_table_page}
use Rattle.extent_model.specs.Gaps.{has_page, next_taken, room_at, gap_starts, least, first_gap}
use Rattle.state_model.specs.Taken.{extent_of}

-- ---- extents that leave the same room

-- what of some extents a gap hangs on: whether any is so, and where the next one begins
pub record Alike (xs ys : List Extent) : Type 0 where
  any : (is_so : Extent → Bool) → list_any is_so xs ≡ list_any is_so ys
  next : (pages page : ℕ) → next_taken pages xs page ≡ next_taken pages ys page

pub alike_self : (xs : List Extent) → Alike xs xs
alike_self xs = record { any = λ is_so. refl; next = λ pages page. refl }

pub alike_chain : (xs ys zs : List Extent) → Alike xs ys → Alike ys zs → Alike xs zs
alike_chain xs ys zs a b = record { any = λ is_so. a.any is_so ∙ b.any is_so; next = λ pages page. a.next pages page ∙ b.next pages page }

-- the next page before which one more extent lies
abbrev lowered : ℕ → ℕ → Extent → ℕ
lowered pages page e = cond (nat_le page e.0) (min pages e.0) pages

next_cons : (pages page : ℕ) (e : Extent) (xs : List Extent) → next_taken pages (e ∷ xs) page ≡ next_taken (lowered pages page e) xs page
next_cons pages page e xs = elim (nat_le page e.0) as (λ t.
    fold min pages (map (λ (e : Extent). e.0) (cond t (e ∷ filter (λ (e : Extent). nat_le page e.0) xs) (filter (λ (e : Extent). nat_le page e.0) xs)))
    ≡ next_taken (cond t (min pages e.0) pages) xs page) [ true ↦ refl | false ↦ refl ]

pub alike_cons : (e : Extent) (xs ys : List Extent) → Alike xs ys → Alike (e ∷ xs) (e ∷ ys)
alike_cons e xs ys a = record {
  any = λ is_so. ap (λ (t : Bool). is_so e || t) (a.any is_so);
  next = λ pages page. next_cons pages page e xs ∙ a.next (lowered pages page e) page ∙ sym (next_cons pages page e ys);
}

or_swap : (a b c : Bool) → (a || (b || c)) ≡ (b || (a || c))
or_swap true true c = refl
or_swap true false c = refl
or_swap false true c = refl
or_swap false false c = refl

min_swap : (p a b : ℕ) → min (min p a) b ≡ min (min p b) a
min_swap p a b = omega arith

lowered_swap : (pages page : ℕ) (d e : Extent) → lowered (lowered pages page d) page e ≡ lowered (lowered pages page e) page d
lowered_swap pages page d e = elim (nat_le page d.0) as (λ t. cond (nat_le page e.0) (min (cond t (min pages d.0) pages) e.0) (cond t (min pages d.0) pages) ≡ cond t (min (lowered pages page e) d.0) (lowered pages page e)) [
  | true ↦ elim (nat_le page e.0) as (λ u. cond u (min (min pages d.0) e.0) (min pages d.0) ≡ min (cond u (min pages e.0) pages) d.0) [ true ↦ min_swap pages d.0 e.0 | false ↦ refl ]
  | false ↦ refl
]

alike_swap : (d e : Extent) (xs : List Extent) → Alike (d ∷ e ∷ xs) (e ∷ d ∷ xs)
alike_swap d e xs = record {
  any = λ is_so. or_swap (is_so d) (is_so e) (list_any is_so xs);
  next = λ pages page. next_cons pages page d (e ∷ xs) ∙ next_cons (lowered pages page d) page e xs
      ∙ ap (λ (n : ℕ). next_taken n xs page) (lowered_swap pages page d e)
      ∙ sym (next_cons (lowered pages page e) page d xs) ∙ sym (next_cons pages page e (d ∷ xs));
}

-- an extent in front, and the same one further in
pub alike_moved : (e : Extent) (xs ys : List Extent) → Alike (e ∷ (xs ++ ys)) (xs ++ (e ∷ ys))
alike_moved e [] ys = alike_self (e ∷ ys)
alike_moved e (x ∷ xs) ys = alike_chain (e ∷ x ∷ (xs ++ ys)) (x ∷ e ∷ (xs ++ ys)) (x ∷ (xs ++ (e ∷ ys)))
    (alike_swap e x (xs ++ ys)) (alike_cons x (e ∷ (xs ++ ys)) (xs ++ (e ∷ ys)) (alike_moved e xs ys))

-- ---- the extents of tables that are placed one after the other

-- the extents of some tables in front of others, the last table first
abbrev pub in_front : List Table → List Extent → List Extent
in_front [] taken = taken
in_front (t ∷ more) taken = in_front more (extent_of t ∷ taken)

in_front_alike : (made : List Table) (xs ys : List Extent) → Alike xs ys → Alike (in_front made xs) (in_front made ys)
in_front_alike [] xs ys a = a
in_front_alike (t ∷ more) xs ys a = in_front_alike more (extent_of t ∷ xs) (extent_of t ∷ ys) (alike_cons (extent_of t) xs ys a)

pub in_front_or_within : (made : List Table) (xs ys : List Extent) → Alike (in_front made (xs ++ ys)) (xs ++ map extent_of made ++ ys)
in_front_or_within [] xs ys = subst (λ (l : List Extent). Alike (xs ++ ys) (l ++ ys)) (sym (append-nil xs)) (alike_self (xs ++ ys))
in_front_or_within (t ∷ more) xs ys =
    let e = extent_of t in
    let moved = subst (Alike (e ∷ (xs ++ ys))) (sym (append_assoc xs (e ∷ []) ys)) (alike_moved e xs ys) in
    let longer = subst (λ (l : List Extent). Alike (in_front more ((xs ++ e ∷ []) ++ ys)) (l ++ ys)) (append_assoc xs (e ∷ []) (map extent_of more))
    (in_front_or_within more (xs ++ e ∷ []) ys) in
    alike_chain (in_front more (e ∷ (xs ++ ys))) (in_front more ((xs ++ e ∷ []) ++ ys)) (xs ++ map extent_of (t ∷ more) ++ ys)
    (in_front_alike more (e ∷ (xs ++ ys)) ((xs ++ e ∷ []) ++ ys) moved) longer

-- ---- no gap

none_any : (is_so : ℕ → Bool) (xs : List ℕ) → least (filter is_so xs) ≡ None → list_any is_so xs ≡ false
none_any is_so [] e = refl
none_any is_so (x ∷ xs) e = elim (is_so x) as (λ t. least (cond t (x ∷ filter is_so xs) (filter is_so xs)) ≡ None → (t || list_any is_so xs) ≡ false) [
  | true ↦ λ e. absurd cc
  | false ↦ λ e. none_any is_so xs e
] e

any_none : (is_so : ℕ → Bool) (xs : List ℕ) → list_any is_so xs ≡ false → least (filter is_so xs) ≡ None
any_none is_so [] e = refl
any_none is_so (x ∷ xs) e = elim (is_so x) as (λ t. (t || list_any is_so xs) ≡ false → least (cond t (x ∷ filter is_so xs) (filter is_so xs)) ≡ None) [
  | true ↦ λ e. absurd cc
  | false ↦ λ e. any_none is_so xs e
] e

any_map : (is_so : ℕ → Bool) (f : Extent → ℕ) (xs : List Extent) → list_any is_so (map f xs) ≡ list_any (λ (e : Extent). is_so (f e)) xs
any_map is_so f [] = refl
any_map is_so f (x ∷ xs) = ap (λ (t : Bool). is_so (f x) || t) (any_map is_so f xs)

any_same : (f g : Extent → Bool) (xs : List Extent) → ((e : Extent) → f e ≡ g e) → list_any f xs ≡ list_any g xs
any_same f g [] same = refl
any_same f g (x ∷ xs) same = ap₂ (λ (t u : Bool). t || u) (same x) (any_same f g xs same)

room_alike : (pages : ℕ) (xs ys : List Extent) (page : ℕ) → Alike xs ys → room_at pages xs page ≡ room_at pages ys page
room_alike pages xs ys page a = ap₂ (λ (t : Bool) (n : ℕ). if t then 0 else n - page) (a.any (has_page page)) (a.next pages page)

-- extents that are alike have no gap together
pub no_gap_alike : (pages need : ℕ) (xs ys : List Extent) → Alike xs ys → first_gap pages xs need ≡ None → first_gap pages ys need ≡ None
no_gap_alike pages need xs ys a e =
    let fits = λ (l : List Extent) (page : ℕ). nat_le need (room_at pages l page) in
    let same = λ (page : ℕ). ap (nat_le need) (room_alike pages xs ys page a) in
    let behind = any_map (fits xs) end_of xs ∙ a.any (λ (e : Extent). fits xs (end_of e))
    ∙ any_same (λ (e : Extent). fits xs (end_of e)) (λ (e : Extent). fits ys (end_of e)) ys (λ e. same (end_of e)) ∙ sym (any_map (fits ys) end_of ys) in
    let starts = ap₂ (λ (t u : Bool). t || u) (same first_table_page) behind in
    any_none (fits ys) (gap_starts ys) (sym starts ∙ none_any (fits xs) (gap_starts xs) e)
