-- Parts of ranges, one range after the other; what is added keeps ranges.
use Rattle.std.proofs.Common.{◌≡◌, List, [], ◌∷◌, ◌++◌, refl, true, false, cond}
use Rattle.std.specs.Prelude.{fold}
use Rattle.std.specs.List.{AllByRecursion}
use Rattle.key_base.specs.ByteOrder.{Bytes, is_before}
use Rattle.range_model.specs.Ranges.{AreRanges, DeletedRange, HasBounds, IsBound, IsDeletedRange, greater_key, lesser_key, range_of, ranges_below, ranges_from, with_range}
use Rattle.range_model.proofs.RangeLaws.{are_below, are_from, bounds_below, bounds_from, bounds_with, rise_below, rise_from, rise_with}
use Rattle.range_model.proofs.Ranges.{ranges_with}

pub below_one : (range : DeletedRange) (later : List DeletedRange) (at : Bytes) → ranges_below (range ∷ []) at ++ ranges_below later at ≡ ranges_below (range ∷ later) at
below_one range later at = elim (is_before range.lo at) as (λ t. cond t (range_of range.lo (lesser_key range.hi at) ∷ []) [] ++ ranges_below later at ≡ cond t (range_of range.lo (lesser_key range.hi at) ∷ ranges_below later at) (ranges_below later at)) [ true ↦ refl | false ↦ refl ]

pub from_one : (range : DeletedRange) (later : List DeletedRange) (at : Bytes) → ranges_from (range ∷ []) at ++ ranges_from later at ≡ ranges_from (range ∷ later) at
from_one range later at = elim (is_before at range.hi) as (λ t. cond t (range_of (greater_key range.lo at) range.hi ∷ []) [] ++ ranges_from later at ≡ cond t (range_of (greater_key range.lo at) range.hi ∷ ranges_from later at) (ranges_from later at)) [ true ↦ refl | false ↦ refl ]

pub kept_with : (ranges : List DeletedRange) (new : DeletedRange) → AreRanges ranges → IsDeletedRange new → HasBounds new → AreRanges (with_range ranges new)
kept_with ranges new are is has = record {
  are = ranges_with ranges new are.are is;
  rise = rise_with ranges new are.are are.rise;
  bounds = bounds_with ranges new are.bounds has;
}

pub kept_below : (ranges : List DeletedRange) (at : Bytes) → AreRanges ranges → IsBound at → AreRanges (ranges_below ranges at)
kept_below ranges at are is = record { are = are_below ranges at are.are; rise = rise_below ranges at are.rise; bounds = bounds_below ranges at is are.bounds }

pub kept_from : (ranges : List DeletedRange) (at : Bytes) → AreRanges ranges → IsBound at → AreRanges (ranges_from ranges at)
kept_from ranges at are is = record { are = are_from ranges at are.are; rise = rise_from ranges at are.rise; bounds = bounds_from ranges at is are.bounds }

pub kept_all : (ranges more : List DeletedRange) → AreRanges ranges → AllByRecursion IsDeletedRange more → AllByRecursion HasBounds more → AreRanges (fold with_range ranges more)
kept_all ranges [] are all has = are
kept_all ranges (new ∷ more) are all has = kept_all (with_range ranges new) more (kept_with ranges new are all.0 has.0) all.1 has.1
