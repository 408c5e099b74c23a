-- Laws of gaps.
use Rattle.std.specs.Prelude.{◌≡◌, ◌<◌, ◌≤◌, ℕ, List, Some, None}
use Rattle.std.specs.List.{AllByRecursion}
use Rattle.std.specs.List.Sorted.{IsPermutation}
use Rattle.extent_model.specs.Extents.{Extent, IsOnDevice, AreApart}
use Rattle.extent_model.specs.Gaps.{largest_gap, first_gap}

-- the first gap is on the device, and apart from all extents
abbrev pub FirstGapIsFree : Type 0
FirstGapIsFree =
    (pages : ℕ) (extents : List Extent) (need page : ℕ) → 0 < need → AllByRecursion (IsOnDevice pages) extents → first_gap pages extents need ≡ Some page
    → IsOnDevice pages (page, need) × AllByRecursion (AreApart (page, need)) extents

-- There is no gap for so many pages exactly where the largest has fewer.
pub record NoGapLaws : Type 0 where
  pub none : (pages : ℕ) (extents : List Extent) (need : ℕ) → first_gap pages extents need ≡ None → largest_gap pages extents < need
  pub small : (pages : ℕ) (extents : List Extent) (need : ℕ) → largest_gap pages extents < need → first_gap pages extents need ≡ None

-- Neither hangs on the order of the extents.
pub record OrderLaws : Type 0 where
  pub first : (pages need : ℕ) (xs ys : List Extent) → IsPermutation xs ys → first_gap pages xs need ≡ first_gap pages ys need
  pub largest : (pages : ℕ) (xs ys : List Extent) → IsPermutation xs ys → largest_gap pages xs ≡ largest_gap pages ys

-- Free pages are in no gap larger than the largest, and no first gap that holds as many begins behind them.
pub record GapsAreAll : Type 0 where
  pub largest :
      (pages page n : ℕ) (extents : List Extent) → IsOnDevice pages (page, n) → AllByRecursion (IsOnDevice pages) extents
      → AllByRecursion (AreApart (page, n)) extents → n ≤ largest_gap pages extents
  pub first :
      (pages page n start : ℕ) (extents : List Extent) → IsOnDevice pages (page, n) → AllByRecursion (IsOnDevice pages) extents
      → AllByRecursion (AreApart (page, n)) extents → first_gap pages extents n ≡ Some start → start ≤ page
