-- There is no gap for so many pages exactly where the largest has fewer.
use Rattle.std.proofs.Common.{◌≡◌, ℕ, zero, suc, ◌≤◌, ◌<◌, List, [], ◌∷◌, refl, ap, ◌∙◌, Bool, true, false, cond, map, arith}
use Rattle.std.specs.Prelude.{Option, Some, None, nat_le, max, fold, filter}
use Rattle.extent_model.specs.Extents.{Extent}
use Rattle.extent_model.specs.Gaps.{room_at, gap_starts, least, first_gap, largest_gap}

pub not_le : (m n : ℕ) → nat_le m n ≡ false → n < m
not_le m n e = grind arith

le_false : (m n : ℕ) → n < m → nat_le m n ≡ false
le_false m n l = grind arith

max_less : (a b n : ℕ) → a < n → b < n → max a b < n
max_less a b n x y = grind arith

pub max_left : (a b c : ℕ) → max a b ≤ c → a ≤ c
max_left a b c l = grind arith

pub max_right : (a b c : ℕ) → max a b ≤ c → b ≤ c
max_right a b c l = grind arith

le_less : (a b c : ℕ) → a ≤ b → b < c → a < c
le_less a b c x y = grind arith

same_le : (a : ℕ) → a ≤ a
same_le a = grind arith

-- where none fits, all rooms are less
none_fits : (room : ℕ → ℕ) (need most : ℕ) (starts : List ℕ) → most < need → filter (λ page. nat_le need (room page)) starts ≡ [] → fold max most (map room starts) < need
none_fits room need most [] less e = less
none_fits room need most (page ∷ more) less e =
    elim (nat_le need (room page)) as (λ t. nat_le need (room page) ≡ t
    → cond t (page ∷ filter (λ page. nat_le need (room page)) more) (filter (λ page. nat_le need (room page)) more) ≡ [] → fold max (max most (room page)) (map room more) < need) [
      | true ↦ λ fits none. cc
      | false ↦ λ wide none. none_fits room need (max most (room page)) more (max_less most (room page) need less (not_le need (room page) wide)) none
    ] refl e

-- the greatest is no less than those before it
most_grows : (room : ℕ → ℕ) (most : ℕ) (starts : List ℕ) → most ≤ fold max most (map room starts)
most_grows room most [] = same_le most
most_grows room most (page ∷ more) = max_left most (room page) (fold max (max most (room page)) (map room more)) (most_grows room (max most (room page)) more)

-- where all rooms are less, none fits
none_left : (room : ℕ → ℕ) (need most : ℕ) (starts : List ℕ) → fold max most (map room starts) < need → filter (λ page. nat_le need (room page)) starts ≡ []
none_left room need most [] less = refl
none_left room need most (page ∷ more) less =
    let small = le_less (room page) (fold max (max most (room page)) (map room more)) need
    (max_right most (room page) (fold max (max most (room page)) (map room more)) (most_grows room (max most (room page)) more)) less in
    ap (λ (t : Bool). cond t (page ∷ filter (λ page. nat_le need (room page)) more) (filter (λ page. nat_le need (room page)) more)) (le_false need (room page) small)
    ∙ none_left room need (max most (room page)) more less

pub least_none : (pages : List ℕ) → least pages ≡ None → pages ≡ []
least_none [] e = refl
least_none (page ∷ more) e = cc

zero_le : (n : ℕ) → nat_le 0 n ≡ true
zero_le n = grind arith

some_or_none : (o : Option ℕ) (n : ℕ) → o ≡ Some n → o ≡ None → ⊥
some_or_none o n some none = cc

zero_fits : (room : ℕ → ℕ) (page : ℕ) (more : List ℕ) → least (filter (λ page. nat_le 0 (room page)) (page ∷ more)) ≡ None → ⊥
zero_fits room page more e = some_or_none _ _
    (ap (λ (t : Bool). least (cond t (page ∷ filter (λ page. nat_le 0 (room page)) more) (filter (λ page. nat_le 0 (room page)) more))) (zero_le (room page))) e

some_need : (need : ℕ) (room : ℕ → ℕ) (page : ℕ) (more : List ℕ) → least (filter (λ page. nat_le need (room page)) (page ∷ more)) ≡ None → 0 < need
some_need zero room page more e = absurd (zero_fits room page more e)
some_need (suc need) room page more e = grind arith

pub no_gap : (pages : ℕ) (extents : List Extent) (need : ℕ) → first_gap pages extents need ≡ None → largest_gap pages extents < need
no_gap pages extents need e =
    none_fits (room_at pages extents) need 0 (gap_starts extents) (some_need need (room_at pages extents) _ _ e)
    (least_none (filter (λ page. nat_le need (room_at pages extents page)) (gap_starts extents)) e)

pub gap_small : (pages : ℕ) (extents : List Extent) (need : ℕ) → largest_gap pages extents < need → first_gap pages extents need ≡ None
gap_small pages extents need less = ap least (none_left (room_at pages extents) need 0 (gap_starts extents) less)
