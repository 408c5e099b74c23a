-- Which range a key may lie within, found by the upper bounds.
use Rattle.std.proofs.Common.{◌≡◌, ◌≤◌, ◌<◌, ℕ, zero, suc, Bool, true, false, not, List, [], ◌∷◌, length, get_or, refl, sym, ap, ◌∙◌, subst, arith}
use Rattle.std.specs.Prelude.{◌&&◌, ◌||◌}
use Rattle.std.specs.List.{AllByRecursion}
use Rattle.std.specs.List.Sorted.{IsPartitionedBy, IsPartitionPoint}
use Rattle.std.proofs.lemmas.Bool.{false≢true}
use Rattle.key_base.specs.ByteOrder.{Bytes, is_before}
use Rattle.range_model.specs.Ranges.{DeletedRange, IsDeletedRange, LiesAbove, RangesRise, covers}
use Rattle.range_model.proofs.KeyOrders.{before_then, test_then}

-- it ends at the key or before it
abbrev pub ends_by : Bytes → DeletedRange → Bool
ends_by key range = not (is_before key range.hi)

-- the bounds of ranges that lie above a key are not before one that is not
later_ends : (key low : Bytes) (ranges : List DeletedRange) (j : ℕ) (d : DeletedRange) → AllByRecursion (LiesAbove low) ranges → AllByRecursion IsDeletedRange ranges → j < length ranges → ends_by key (get_or ranges j d) ≡ true → not (is_before key low) ≡ true
later_ends key low [] j d above all lt e = absurd (omega (arith, lt))
later_ends key low (r ∷ rs) zero d above all lt e = elim (is_before key low) as (λ t. is_before key low ≡ t → not t ≡ true) [
  | true ↦ λ b. absurd (false≢true (sym (ap not (test_then key low r.hi (before_then low r.lo r.hi above.0 all.0) b)) ∙ e))
  | false ↦ λ _. refl
] refl
later_ends key low (r ∷ rs) (suc j) d above all lt e = later_ends key low rs j d above.1 all.1 (omega (arith, lt)) e

pub parted : (key : Bytes) (ranges : List DeletedRange) → AllByRecursion IsDeletedRange ranges → RangesRise ranges → IsPartitionedBy (ends_by key) ranges
parted key [] all rise i j d le lt e = absurd (omega (arith, lt))
parted key (r ∷ rs) all rise zero zero d le lt e = e
parted key (r ∷ rs) all rise zero (suc j) d le lt e = later_ends key r.hi rs j d rise.0 all.1 (omega (arith, lt)) e
parted key (r ∷ rs) all rise (suc i) zero d le lt e = absurd (omega (arith, le))
parted key (r ∷ rs) all rise (suc i) (suc j) d le lt e = parted key rs all.1 rise.1 i j d (omega (arith, le)) (omega (arith, lt)) e

-- ranges that lie above a key cover none before it
none_covers : (key low : Bytes) (ranges : List DeletedRange) → is_before key low ≡ true → AllByRecursion (LiesAbove low) ranges → covers ranges key ≡ false
none_covers key low [] less above = refl
none_covers key low (r ∷ rs) less above =
    ap (λ (t : Bool). (not t && is_before key r.hi) || covers rs key) (test_then key low r.lo above.0 less) ∙ none_covers key low rs less above.1

one_covers : (a b c : Bool) → b ≡ true → c ≡ false → not a ≡ ((not a && b) || c)
one_covers true true c e none = sym none
one_covers false true c e none = refl
one_covers a false c e none = absurd (false≢true e)

not_this : (a b c : Bool) → b ≡ false → ((not a && b) || c) ≡ c
not_this true false c e = refl
not_this false false c e = refl
not_this a true c e = absurd (false≢true (sym e))

-- the first of them that ends after the key
abbrev pub IsPlace : Bytes → List DeletedRange → ℕ → Type 0
IsPlace key ranges n = IsPartitionPoint (λ (range : DeletedRange). is_before key range.hi ≡ false) (λ (range : DeletedRange). is_before key range.hi ≡ true) ranges n

other : (b t : Bool) → not b ≡ t → b ≡ not t
other true t e = ap not e
other false t e = ap not e

pub place_of_tests : (key : Bytes) (items ranges : List DeletedRange) (n : ℕ) → items ≡ ranges
    → IsPartitionPoint (λ range. ends_by key range ≡ true) (λ range. ends_by key range ≡ false) items n → IsPlace key ranges n
place_of_tests key items ranges n is point = subst (λ (l : List DeletedRange). IsPlace key l n) is
    ((λ k d a b. other (is_before key (get_or items k d).hi) true (point.0 k d a b)), (λ k d a b. other (is_before key (get_or items k d).hi) false (point.1 k d a b)))

later_place : (key : Bytes) (r : DeletedRange) (rs : List DeletedRange) (n : ℕ) → IsPlace key (r ∷ rs) (suc n) → IsPlace key rs n
later_place key r rs n place = ((λ k d a b. place.0 (suc k) d (omega arith) (omega (arith, b))), (λ k d a b. place.1 (suc k) d (omega (arith, a)) (omega (arith, b))))

-- it covers the key where any does
pub first_covers : (key : Bytes) (ranges : List DeletedRange) (n : ℕ) (d : DeletedRange) → AllByRecursion IsDeletedRange ranges → RangesRise ranges
    → IsPlace key ranges n → n < length ranges → not (is_before key (get_or ranges n d).lo) ≡ covers ranges key
first_covers key [] n d all rise place lt = absurd (omega (arith, lt))
first_covers key (r ∷ rs) zero d all rise place lt =
    let ends = place.1 0 r (omega arith) (omega arith) in
    one_covers (is_before key r.lo) (is_before key r.hi) (covers rs key) ends (none_covers key r.hi rs ends rise.0)
first_covers key (r ∷ rs) (suc n) d all rise place lt =
    first_covers key rs n d all.1 rise.1 (later_place key r rs n place) (omega (arith, lt))
    ∙ sym (not_this (is_before key r.lo) (is_before key r.hi) (covers rs key) (place.0 0 r (omega arith) (omega arith)))

-- where there is none, no range covers it
pub past_all : (key : Bytes) (ranges : List DeletedRange) (n : ℕ) → length ranges ≤ n → IsPlace key ranges n → covers ranges key ≡ false
past_all key [] n le place = refl
past_all key (r ∷ rs) zero le place = absurd (omega (arith, le))
past_all key (r ∷ rs) (suc n) le place =
    not_this (is_before key r.lo) (is_before key r.hi) (covers rs key) (place.0 0 r (omega arith) (omega arith))
    ∙ past_all key rs n (omega (arith, le)) (later_place key r rs n place)
