-- Ranges of keys that were deleted: from a key on, and up to another one without it.
use Rattle.std.specs.Prelude.{◌≤◌, Bool, false, ◌||◌, List, [], ◌∷◌, length, if◌then◌else◌}
use Rattle.std.specs.List.{AllByRecursion}
use Rattle.byte_fields.specs.Spelling.{IsBytes}
use Rattle.key_base.specs.ByteOrder.{Bytes, IsBefore, is_before}
use Rattle.key_base.specs.Limits.{max_key_bytes}
use Rattle.range_model.specs.Clearing.{lies_within}

pub record DeletedRange : Type 0 where
  pub lo : Bytes
  pub hi : Bytes

abbrev pub range_of : Bytes → Bytes → DeletedRange
range_of lo hi = record { lo = lo; hi = hi }

abbrev pub IsDeletedRange : DeletedRange → Type 0
IsDeletedRange range = IsBefore range.lo range.hi

-- the range lies above the key, with room between them
abbrev pub LiesAbove : Bytes → DeletedRange → Type 0
LiesAbove key range = IsBefore key range.lo

-- each lies above the end of those before it
abbrev pub RangesRise : List DeletedRange → Type 0
RangesRise [] = Unit {0}
RangesRise (range ∷ later) = AllByRecursion (LiesAbove range.hi) later × RangesRise later

-- the key lies within the range
abbrev pub is_covered : DeletedRange → Bytes → Bool
is_covered range key = lies_within range.lo range.hi key

-- the key lies within one of them
abbrev pub covers : List DeletedRange → Bytes → Bool
covers [] key = false
covers (range ∷ later) key = is_covered range key || covers later key

abbrev pub lesser_key : Bytes → Bytes → Bytes
lesser_key x y = if is_before y x then y else x

abbrev pub greater_key : Bytes → Bytes → Bytes
greater_key x y = if is_before x y then y else x

abbrev pub joined_range : DeletedRange → DeletedRange → DeletedRange
joined_range one other = range_of (lesser_key one.lo other.lo) (greater_key one.hi other.hi)

-- ranges that rise, with one more: it is joined with those that it meets or touches
abbrev pub with_range : List DeletedRange → DeletedRange → List DeletedRange
with_range [] new = new ∷ []
with_range (range ∷ later) new =
    if is_before range.hi new.lo then range ∷ with_range later new
    else (if is_before new.hi range.lo then new ∷ range ∷ later else with_range later (joined_range range new))

-- what of them lies below a key
abbrev pub ranges_below : List DeletedRange → Bytes → List DeletedRange
ranges_below [] at = []
ranges_below (range ∷ later) at =
    if is_before range.lo at then range_of range.lo (lesser_key range.hi at) ∷ ranges_below later at else ranges_below later at

-- what of them lies from a key on
abbrev pub ranges_from : List DeletedRange → Bytes → List DeletedRange
ranges_from [] at = []
ranges_from (range ∷ later) at =
    if is_before at range.hi then range_of (greater_key range.lo at) range.hi ∷ ranges_from later at else ranges_from later at

-- a key with the length of one
pub record IsBound (key : Bytes) : Type 0 where
  pub some : 1 ≤ length key
  pub short : length key ≤ max_key_bytes
  pub bytes : IsBytes key

abbrev pub HasBounds : DeletedRange → Type 0
HasBounds range = IsBound range.lo × IsBound range.hi

-- they rise and do not touch, and their bounds are keys
pub record AreRanges (ranges : List DeletedRange) : Type 0 where
  pub are : AllByRecursion IsDeletedRange ranges
  pub rise : RangesRise ranges
  pub bounds : AllByRecursion HasBounds ranges
