-- Ranges rise with one more, and those that are cut at a key; what bounds they have.
use Rattle.std.proofs.Common.{◌≡◌, List, [], ◌∷◌, refl, true, false, cond}
use Rattle.std.specs.List.{AllByRecursion}
use Rattle.key_base.specs.ByteOrder.{Bytes, IsBefore, is_before}
use Rattle.map_model.proofs.Between.{before_less}
use Rattle.range_model.specs.Ranges.{DeletedRange, IsDeletedRange, HasBounds, IsBound, LiesAbove, RangesRise, greater_key, joined_range, lesser_key, range_of, ranges_below, ranges_from, with_range}
use Rattle.range_model.specs.Laws.{OneRangeMore, RangesAreCut}
use Rattle.range_model.proofs.KeyOrders.{before_then}
use Rattle.range_model.proofs.Ranges.{covers_below, covers_from, covers_with, ranges_with}

-- ---- ranges rise

pub lesser_above : (low x y : Bytes) → IsBefore low x → IsBefore low y → IsBefore low (lesser_key x y)
lesser_above low x y one other = elim (is_before y x) as (λ t. IsBefore low (cond t y x)) [ true ↦ other | false ↦ one ]

above_ranges : (low : Bytes) (ranges : List DeletedRange) (new : DeletedRange) → IsBefore low new.lo → AllByRecursion (LiesAbove low) ranges → AllByRecursion (LiesAbove low) (with_range ranges new)
above_ranges low [] new less all = (less, tt)
above_ranges low (range ∷ later) new less all =
    elim (is_before range.hi new.lo) as (λ t. AllByRecursion (LiesAbove low) (cond t (range ∷ with_range later new) (cond (is_before new.hi range.lo) (new ∷ range ∷ later) (with_range later (joined_range range new))))) [
      | true ↦ (all.0, above_ranges low later new less all.1)
      | false ↦ elim (is_before new.hi range.lo) as (λ t. AllByRecursion (LiesAbove low) (cond t (new ∷ range ∷ later) (with_range later (joined_range range new)))) [
        | true ↦ (less, all)
        | false ↦ above_ranges low later (joined_range range new) (lesser_above low range.lo new.lo all.0 less) all.1
      ]
    ]

pub above_less : (low high : Bytes) (ranges : List DeletedRange) → IsBefore low high → AllByRecursion (LiesAbove high) ranges → AllByRecursion (LiesAbove low) ranges
above_less low high [] less all = tt
above_less low high (range ∷ later) less all = (before_then low high range.lo less all.0, above_less low high later less all.1)

-- all that comes behind a range lies above its first key's bound
pub above_all : (low : Bytes) (range : DeletedRange) (later : List DeletedRange) → IsBefore low range.lo → IsDeletedRange range → RangesRise (range ∷ later) → AllByRecursion (LiesAbove low) (range ∷ later)
above_all low range later less is rise = (less, above_less low range.hi later (before_then low range.lo range.hi less is) rise.0)

pub rise_with : (ranges : List DeletedRange) (new : DeletedRange) → AllByRecursion IsDeletedRange ranges → RangesRise ranges → RangesRise (with_range ranges new)
rise_with [] new all rise = (tt, tt)
rise_with (range ∷ later) new all rise =
    elim (is_before range.hi new.lo) as (λ t. is_before range.hi new.lo ≡ t → RangesRise (cond t (range ∷ with_range later new) (cond (is_before new.hi range.lo) (new ∷ range ∷ later) (with_range later (joined_range range new))))) [
      | true ↦ λ e. (above_ranges range.hi later new (before_less range.hi new.lo e) rise.0, rise_with later new all.1 rise.1)
      | false ↦ λ _. elim (is_before new.hi range.lo) as (λ t. is_before new.hi range.lo ≡ t → RangesRise (cond t (new ∷ range ∷ later) (with_range later (joined_range range new)))) [
        | true ↦ λ e. (above_all new.hi range later (before_less new.hi range.lo e) all.0 rise, rise)
        | false ↦ λ _. rise_with later (joined_range range new) all.1 rise.1
      ] refl
    ] refl

-- ---- below a key, and from it on

pub are_below : (ranges : List DeletedRange) (at : Bytes) → AllByRecursion IsDeletedRange ranges → AllByRecursion IsDeletedRange (ranges_below ranges at)
are_below [] at all = tt
are_below (range ∷ later) at all =
    elim (is_before range.lo at) as (λ t. is_before range.lo at ≡ t → AllByRecursion IsDeletedRange (cond t (range_of range.lo (lesser_key range.hi at) ∷ ranges_below later at) (ranges_below later at))) [
      | true ↦ λ e. (lesser_above range.lo range.hi at all.0 (before_less range.lo at e), are_below later at all.1)
      | false ↦ λ _. are_below later at all.1
    ] refl

greater_below : (x y high : Bytes) → IsBefore x high → IsBefore y high → IsBefore (greater_key x y) high
greater_below x y high one other = elim (is_before x y) as (λ t. IsBefore (cond t y x) high) [ true ↦ other | false ↦ one ]

pub are_from : (ranges : List DeletedRange) (at : Bytes) → AllByRecursion IsDeletedRange ranges → AllByRecursion IsDeletedRange (ranges_from ranges at)
are_from [] at all = tt
are_from (range ∷ later) at all =
    elim (is_before at range.hi) as (λ t. is_before at range.hi ≡ t → AllByRecursion IsDeletedRange (cond t (range_of (greater_key range.lo at) range.hi ∷ ranges_from later at) (ranges_from later at))) [
      | true ↦ λ e. (greater_below range.lo at range.hi all.0 (before_less at range.hi e), are_from later at all.1)
      | false ↦ λ _. are_from later at all.1
    ] refl

above_below : (low at : Bytes) (ranges : List DeletedRange) → AllByRecursion (LiesAbove low) ranges → AllByRecursion (LiesAbove low) (ranges_below ranges at)
above_below low at [] all = tt
above_below low at (range ∷ later) all =
    elim (is_before range.lo at) as (λ t. AllByRecursion (LiesAbove low) (cond t (range_of range.lo (lesser_key range.hi at) ∷ ranges_below later at) (ranges_below later at))) [
      | true ↦ (all.0, above_below low at later all.1)
      | false ↦ above_below low at later all.1
    ]

above_lesser : (x y : Bytes) (ranges : List DeletedRange) → AllByRecursion (LiesAbove x) ranges → AllByRecursion (LiesAbove (lesser_key x y)) ranges
above_lesser x y ranges all = elim (is_before y x) as (λ t. is_before y x ≡ t → AllByRecursion (LiesAbove (cond t y x)) ranges) [
  | true ↦ λ e. above_less y x ranges (before_less y x e) all
  | false ↦ λ _. all
] refl

pub rise_below : (ranges : List DeletedRange) (at : Bytes) → RangesRise ranges → RangesRise (ranges_below ranges at)
rise_below [] at rise = tt
rise_below (range ∷ later) at rise =
    elim (is_before range.lo at) as (λ t. RangesRise (cond t (range_of range.lo (lesser_key range.hi at) ∷ ranges_below later at) (ranges_below later at))) [
      | true ↦ (above_lesser range.hi at (ranges_below later at) (above_below range.hi at later rise.0), rise_below later at rise.1)
      | false ↦ rise_below later at rise.1
    ]

greater_above : (low x y : Bytes) → IsBefore low x → IsBefore low (greater_key x y)
greater_above low x y less = elim (is_before x y) as (λ t. is_before x y ≡ t → IsBefore low (cond t y x)) [
  | true ↦ λ e. before_then low x y less (before_less x y e)
  | false ↦ λ _. less
] refl

above_from : (low at : Bytes) (ranges : List DeletedRange) → AllByRecursion (LiesAbove low) ranges → AllByRecursion (LiesAbove low) (ranges_from ranges at)
above_from low at [] all = tt
above_from low at (range ∷ later) all =
    elim (is_before at range.hi) as (λ t. AllByRecursion (LiesAbove low) (cond t (range_of (greater_key range.lo at) range.hi ∷ ranges_from later at) (ranges_from later at))) [
      | true ↦ (greater_above low range.lo at all.0, above_from low at later all.1)
      | false ↦ above_from low at later all.1
    ]

pub rise_from : (ranges : List DeletedRange) (at : Bytes) → RangesRise ranges → RangesRise (ranges_from ranges at)
rise_from [] at rise = tt
rise_from (range ∷ later) at rise =
    elim (is_before at range.hi) as (λ t. RangesRise (cond t (range_of (greater_key range.lo at) range.hi ∷ ranges_from later at) (ranges_from later at))) [
      | true ↦ (above_from range.hi at later rise.0, rise_from later at rise.1)
      | false ↦ rise_from later at rise.1
    ]

-- ---- bounds

lesser_bound : (x y : Bytes) → IsBound x → IsBound y → IsBound (lesser_key x y)
lesser_bound x y one other = elim (is_before y x) as (λ t. IsBound (cond t y x)) [ true ↦ other | false ↦ one ]

greater_bound : (x y : Bytes) → IsBound x → IsBound y → IsBound (greater_key x y)
greater_bound x y one other = elim (is_before x y) as (λ t. IsBound (cond t y x)) [ true ↦ other | false ↦ one ]

pub bounds_with : (ranges : List DeletedRange) (new : DeletedRange) → AllByRecursion HasBounds ranges → HasBounds new → AllByRecursion HasBounds (with_range ranges new)
bounds_with [] new all has = (has, tt)
bounds_with (range ∷ later) new all has =
    elim (is_before range.hi new.lo) as (λ t. AllByRecursion HasBounds (cond t (range ∷ with_range later new) (cond (is_before new.hi range.lo) (new ∷ range ∷ later) (with_range later (joined_range range new))))) [
      | true ↦ (all.0, bounds_with later new all.1 has)
      | false ↦ elim (is_before new.hi range.lo) as (λ t. AllByRecursion HasBounds (cond t (new ∷ range ∷ later) (with_range later (joined_range range new)))) [
        | true ↦ (has, all)
        | false ↦ bounds_with later (joined_range range new) all.1 (lesser_bound range.lo new.lo all.0.0 has.0, greater_bound range.hi new.hi all.0.1 has.1)
      ]
    ]

pub bounds_below : (ranges : List DeletedRange) (at : Bytes) → IsBound at → AllByRecursion HasBounds ranges → AllByRecursion HasBounds (ranges_below ranges at)
bounds_below [] at is all = tt
bounds_below (range ∷ later) at is all =
    elim (is_before range.lo at) as (λ t. AllByRecursion HasBounds (cond t (range_of range.lo (lesser_key range.hi at) ∷ ranges_below later at) (ranges_below later at))) [
      | true ↦ ((all.0.0, lesser_bound range.hi at all.0.1 is), bounds_below later at is all.1)
      | false ↦ bounds_below later at is all.1
    ]

pub bounds_from : (ranges : List DeletedRange) (at : Bytes) → IsBound at → AllByRecursion HasBounds ranges → AllByRecursion HasBounds (ranges_from ranges at)
bounds_from [] at is all = tt
bounds_from (range ∷ later) at is all =
    elim (is_before at range.hi) as (λ t. AllByRecursion HasBounds (cond t (range_of (greater_key range.lo at) range.hi ∷ ranges_from later at) (ranges_from later at))) [
      | true ↦ ((greater_bound range.lo at all.0.0 is, all.0.1), bounds_from later at is all.1)
      | false ↦ bounds_from later at is all.1
    ]

-- ---- together

pub one_range_more : OneRangeMore
one_range_more ranges new all rise is = record {
  covers = λ key. covers_with ranges new key all is;
  are = ranges_with ranges new all is;
  rise = rise_with ranges new all rise;
  bounds = bounds_with ranges new;
}

pub ranges_are_cut : RangesAreCut
ranges_are_cut ranges at all rise = record {
  below = covers_below ranges at;
  from = covers_from ranges at;
  are_below = are_below ranges at all;
  are_from = are_from ranges at all;
  rise_below = rise_below ranges at rise;
  rise_from = rise_from ranges at rise;
  bounds_below = bounds_below ranges at;
  bounds_from = bounds_from ranges at;
}
