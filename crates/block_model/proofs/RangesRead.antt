-- The ranges of an index are read as they were written, and were written as they are read.
use Rattle.std.proofs.Common.{◌≡◌, ◌≤◌, ◌<◌, ◌+◌, ◌^◌, ℕ, zero, suc, Bool, true, false, cond, List, [], ◌∷◌, ◌++◌, length, take, drop, refl, sym, ap, ap₂, ◌∙◌, arith, append_assoc, length-append, length-drop}
use Rattle.std.specs.Prelude.{None, ◌==◌, nat_lt, flat_map, not, ◌||◌}
use Rattle.std.specs.List.{AllByRecursion}
use Rattle.std.proofs.lemmas.Bool.{ltb-false, le-ltb, or_from, or_parts}
use Rattle.std.proofs.lemmas.List.{drop_at, length-take, nil_from_length, take-append-drop, take_at}
use Rattle.std.proofs.Math.Seq.{take-add}
use Rattle.byteorder.specs.Endian.{little_bytes}
use Rattle.byte_fields.specs.Spelling.{IsBytes}
use Rattle.byte_fields.proofs.NumberLemmas.{IsBytes-drop, IsBytes-take, number_again, number_back, number_below}
use Rattle.key_base.specs.ByteOrder.{Bytes, IsBefore, is_before}
use Rattle.map_model.proofs.Between.{before_less}
use Rattle.entry_model.proofs.Bodies.{joined}
use Rattle.range_model.specs.Ranges.{DeletedRange, HasBounds, IsBound, IsDeletedRange, LiesAbove, RangesRise, range_of}
use Rattle.range_model.proofs.KeyOrders.{before_then, is_before_of}
use Rattle.block_model.specs.Index.{AreIndexRanges, bound_bytes, index_magic, magic_for, range_bytes, ranges_bytes, ranges_magic}
use Rattle.block_model.specs.IndexReading.{all_ranges_fault, all_ranges_in, bound_in, bound_length_in, bound_width_in, hi_part, range_fault, range_in, range_width_in, ranges_count_in, ranges_fault, ranges_in}
use Rattle.block_model.proofs.LastBlocks.{positive}
use Rattle.block_model.proofs.OldEntriesRead.{eqb_zero, key_length_kept}
use Rattle.block_model.proofs.OldEntriesWritten.{key_length_sound}
use Rattle.block_model.proofs.Refusals.{kept, neither, none_of, not_false, not_true, passed}

-- ---- the order of ranges, each with the one before

abbrev Above : Bytes → List DeletedRange → Type 0
Above before [] = Unit {0}
Above before (range ∷ later) = (is_before before range.lo ≡ true) × Above range.hi later

above_of : (before : Bytes) (ranges : List DeletedRange) → AllByRecursion (LiesAbove before) ranges → RangesRise ranges → Above before ranges
above_of before [] above rise = tt
above_of before (range ∷ later) above rise = (is_before_of before range.lo above.0, above_of range.hi later rise.0 rise.1)

above_nothing : (key : Bytes) → 1 ≤ length key → IsBefore [] key
above_nothing [] some = absurd (omega (arith, some))
above_nothing (b ∷ key) some = refl

all_above_nothing : (ranges : List DeletedRange) → AllByRecursion HasBounds ranges → AllByRecursion (LiesAbove []) ranges
all_above_nothing [] bounds = tt
all_above_nothing (range ∷ later) bounds = (above_nothing range.lo bounds.0.0.some, all_above_nothing later bounds.1)

lower_all : (a b : Bytes) (ranges : List DeletedRange) → IsBefore a b → AllByRecursion (LiesAbove b) ranges → AllByRecursion (LiesAbove a) ranges
lower_all a b [] less above = tt
lower_all a b (range ∷ later) less above = (before_then a b range.lo less above.0, lower_all a b later less above.1)

rises_of : (before : Bytes) (ranges : List DeletedRange) → Above before ranges → AllByRecursion IsDeletedRange ranges
    → AllByRecursion (LiesAbove before) ranges × RangesRise ranges
rises_of before [] above are = (tt, tt)
rises_of before (range ∷ later) above are =
    let others = rises_of range.hi later above.1 are.1 in
    let less = before_less before range.lo above.0 in
    ((less, lower_all before range.hi later (before_then before range.lo range.hi less are.0) others.0), others)

-- ---- what was written of a bound is read

bound_length_again : (key rest : Bytes) → length key ≤ 1024 → bound_length_in (bound_bytes key ++ rest) ≡ length key
bound_length_again key rest short = number_again 2 (length key) (key ++ rest) (omega (arith, short))

past_length : (key rest : Bytes) → drop 2 (bound_bytes key ++ rest) ≡ key ++ rest
past_length key rest = refl

bound_again : (key rest : Bytes) → length key ≤ 1024 → bound_in (bound_bytes key ++ rest) ≡ key
unfolding bound_in
bound_again key rest short =
    ap₂ (λ (n : ℕ) (l : Bytes). take n l) (bound_length_again key rest short) (past_length key rest) ∙ take_at key rest (length key) refl

past_bound : (key rest : Bytes) → length key ≤ 1024 → hi_part (bound_bytes key ++ rest) ≡ rest
past_bound key rest short =
    drop_at (bound_bytes key) rest (bound_width_in (bound_bytes key ++ rest)) (omega (arith, bound_length_again key rest short))

-- ---- and of a range

module _ (range : DeletedRange) (rest : Bytes) (has : HasBounds range) where
  abbrev all : Bytes
  all = range_bytes range ++ rest

  parted : all ≡ bound_bytes range.lo ++ (bound_bytes range.hi ++ rest)
  unfolding range_bytes
  parted = append_assoc (bound_bytes range.lo) (bound_bytes range.hi) rest

  lo_long : bound_length_in all ≡ length range.lo
  lo_long = ap bound_length_in parted ∙ bound_length_again range.lo (bound_bytes range.hi ++ rest) has.0.short

  hi_again : hi_part all ≡ bound_bytes range.hi ++ rest
  hi_again = ap hi_part parted ∙ past_bound range.lo (bound_bytes range.hi ++ rest) has.0.short

  hi_long : bound_length_in (hi_part all) ≡ length range.hi
  hi_long = ap bound_length_in hi_again ∙ bound_length_again range.hi rest has.1.short

  range_again : range_in all ≡ range
  unfolding range_in
  range_again =
      ap₂ (λ (lo hi : Bytes). range_of lo hi) (ap bound_in parted ∙ bound_again range.lo (bound_bytes range.hi ++ rest) has.0.short)
      (ap bound_in hi_again ∙ bound_again range.hi rest has.1.short)

  range_long : length (range_bytes range) ≡ range_width_in all
  unfolding range_width_in range_bytes
  range_long = omega (arith, length-append range.lo (bound_bytes range.hi), lo_long, hi_long)

  past_range : drop (range_width_in all) all ≡ rest
  past_range = drop_at (range_bytes range) rest (range_width_in all) range_long

  range_kept : (place : ℕ) (before : Bytes) → IsDeletedRange range → is_before before range.lo ≡ true → range_fault place before all ≡ None
  unfolding range_fault
  range_kept place before is above =
      passed _ _ _ _ (le-ltb (length all) (range_width_in all) (omega (arith, length-append (range_bytes range) rest, range_long)))
      (passed _ _ _ _ (key_length_kept (bound_length_in all) (omega (arith, lo_long, has.0.some)) (omega (arith, lo_long, has.0.short)))
      (passed _ _ _ _ (key_length_kept (bound_length_in (hi_part all)) (omega (arith, hi_long, has.1.some)) (omega (arith, hi_long, has.1.short)))
      (passed _ _ _ _
      (ap (λ (r : DeletedRange). not (is_before before r.lo) || not (is_before r.lo r.hi)) range_again
      ∙ or_from _ _ (not_true _ above) (not_true _ (is_before_of range.lo range.hi is)))
      refl)))

ranges_kept : (place : ℕ) (before : Bytes) (ranges : List DeletedRange) → AllByRecursion HasBounds ranges → AllByRecursion IsDeletedRange ranges → Above before ranges
    → ranges_fault (length ranges) place before (flat_map range_bytes ranges) ≡ None
unfolding ranges_fault
ranges_kept place before [] bounds are above = refl
ranges_kept place before (range ∷ later) bounds are above =
    let rest = flat_map range_bytes later in
    let b = range_bytes range ++ rest in
    none_of _ _ (range_kept range rest bounds.0 place before are.0 above.0)
    (ap₂ (λ (r : DeletedRange) (l : Bytes). ranges_fault (length later) (place + range_width_in b) r.hi l) (range_again range rest bounds.0) (past_range range rest bounds.0)
    ∙ ranges_kept (place + range_width_in b) range.hi later bounds.1 are.1 above.1)

ranges_again : (ranges : List DeletedRange) → AllByRecursion HasBounds ranges → ranges_in (length ranges) (flat_map range_bytes ranges) ≡ ranges
unfolding ranges_in
ranges_again [] bounds = refl
ranges_again (range ∷ later) bounds =
    let rest = flat_map range_bytes later in
    ap₂ (λ (r : DeletedRange) (l : Bytes). r ∷ ranges_in (length later) l) (range_again range rest bounds.0) (past_range range rest bounds.0)
    ∙ ap (λ (l : List DeletedRange). range ∷ l) (ranges_again later bounds.1)

-- ---- and of all ranges, with their number

count_again : (n : ℕ) (rest : Bytes) → n < 2 ^ 32 → ranges_count_in (little_bytes 4 n ++ rest) ≡ n
count_again n rest few = number_again 4 n rest (omega (arith, few))

pub all_kept : (place : ℕ) (ranges : List DeletedRange) → AreIndexRanges ranges → all_ranges_fault (magic_for ranges == ranges_magic) place (ranges_bytes ranges) ≡ None
unfolding all_ranges_fault ranges_fault ranges_bytes
all_kept place [] is = refl
all_kept place (range ∷ later) is =
    let n = length (range ∷ later) in
    let rest = flat_map range_bytes (range ∷ later) in
    let many = count_again n rest is.few in
    passed _ _ _ _ (le-ltb (length (little_bytes 4 n ++ rest)) 4 (omega arith))
    (passed _ _ _ _ (eqb_zero (ranges_count_in (little_bytes 4 n ++ rest)) (omega (arith, many)))
    (ap (λ (m : ℕ). ranges_fault m (place + 4) [] rest) many
    ∙ ranges_kept (place + 4) [] (range ∷ later) is.sound.bounds is.sound.are
    (above_of [] (range ∷ later) (all_above_nothing (range ∷ later) is.sound.bounds) is.sound.rise)))

pub all_again : (ranges : List DeletedRange) → AreIndexRanges ranges → all_ranges_in (magic_for ranges == ranges_magic) (ranges_bytes ranges) ≡ ranges
unfolding all_ranges_in ranges_bytes
all_again [] is = refl
all_again (range ∷ later) is =
    let rest = flat_map range_bytes (range ∷ later) in
    ap (λ (m : ℕ). ranges_in m rest) (count_again (length (range ∷ later)) rest is.few) ∙ ranges_again (range ∷ later) is.sound.bounds

-- ---- what breaks no rule was written so: a bound

bound_long : (rest : Bytes) → bound_width_in rest ≤ length rest → length (bound_in rest) ≡ bound_length_in rest
unfolding bound_in
bound_long rest within = omega (arith, length-take (bound_length_in rest) (drop 2 rest), length-drop 2 rest, within)

bound_written : (rest : Bytes) → IsBytes rest → bound_width_in rest ≤ length rest → bound_bytes (bound_in rest) ≡ take (bound_width_in rest) rest
unfolding bound_in
bound_written rest bytes within =
    ap (λ (p : Bytes). p ++ take (bound_length_in rest) (drop 2 rest)) (ap (little_bytes 2) (bound_long rest within) ∙ number_back 2 rest bytes (omega (arith, within)))
    ∙ joined 2 (bound_length_in rest) 0 rest

bound_is : (rest : Bytes) → IsBytes rest → bound_width_in rest ≤ length rest → 1 ≤ bound_length_in rest → bound_length_in rest ≤ 1024 → IsBound (bound_in rest)
unfolding bound_in
bound_is rest bytes within some short = record {
  some = omega (arith, bound_long rest within, some);
  short = omega (arith, bound_long rest within, short);
  bytes = IsBytes-take (bound_length_in rest) (drop 2 rest) (IsBytes-drop 2 rest bytes);
}

-- ---- a range

pub record RangeWritten (before rest : Bytes) : Type 0 where
  pub within : range_width_in rest ≤ length rest
  pub written : range_bytes (range_in rest) ≡ take (range_width_in rest) rest
  pub bounds : HasBounds (range_in rest)
  pub is : IsDeletedRange (range_in rest)
  pub above : is_before before (range_in rest).lo ≡ true

pub range_written : (place : ℕ) (before rest : Bytes) → IsBytes rest → range_fault place before rest ≡ None → RangeWritten before rest
unfolding range_fault range_in range_width_in range_bytes
range_written place before rest bytes none =
    let a = kept _ _ _ _ none in
    let b = kept _ _ _ _ a.1 in
    let c = kept _ _ _ _ b.1 in
    let d = kept _ _ _ _ c.1 in
    let m = bound_width_in rest in
    let n = bound_width_in (hi_part rest) in
    let within : m + n ≤ length rest = ltb-false _ _ a.0 in
    let lo = key_length_sound (bound_length_in rest) b.0 in
    let hi = key_length_sound (bound_length_in (hi_part rest)) c.0 in
    let order = or_parts _ _ d.0 in
    let lo_within : m ≤ length rest = omega (arith, within) in
    let hi_within : n ≤ length (hi_part rest) = omega (arith, within, length-drop m rest) in
    let later = IsBytes-drop m rest bytes in
    record {
      within = within;
      written = ap₂ (λ (p q : Bytes). p ++ q) (bound_written rest bytes lo_within) (bound_written (hi_part rest) later hi_within) ∙ sym (take-add m n rest);
      bounds = (bound_is rest bytes lo_within lo.0 lo.1, bound_is (hi_part rest) later hi_within hi.0 hi.1);
      is = before_less (bound_in rest) (bound_in (hi_part rest)) (not_false _ order.1);
      above = not_false _ order.0;
    }

record RangesWritten (n : ℕ) (before rest : Bytes) : Type 0 where
  pub written : flat_map range_bytes (ranges_in n rest) ≡ rest
  pub bounds : AllByRecursion HasBounds (ranges_in n rest)
  pub are : AllByRecursion IsDeletedRange (ranges_in n rest)
  pub above : Above before (ranges_in n rest)
  pub many : length (ranges_in n rest) ≡ n

ranges_written : (n place : ℕ) (before rest : Bytes) → IsBytes rest → ranges_fault n place before rest ≡ None → RangesWritten n before rest
unfolding ranges_fault ranges_in
ranges_written zero place before rest bytes none =
    let le : length rest ≤ 0 = ltb-false 0 (length rest) (kept (nat_lt 0 (length rest)) place 7 None none).0 in
    record { written = sym (nil_from_length rest (omega (arith, le))); bounds = tt; are = tt; above = tt; many = refl }
ranges_written (suc n) place before rest bytes none =
    let both = neither _ _ none in
    let one = range_written place before rest bytes both.0 in
    let w = range_width_in rest in
    let later = ranges_written n (place + w) (range_in rest).hi (drop w rest) (IsBytes-drop w rest bytes) both.1 in
    record {
      written = ap₂ (λ (a b : Bytes). a ++ b) one.written later.written ∙ take-append-drop w rest;
      bounds = (one.bounds, later.bounds);
      are = (one.is, later.are);
      above = (one.above, later.above);
      many = omega (arith, later.many);
    }

-- ---- all ranges

some_bytes : (ranges : List DeletedRange) → 1 ≤ length ranges → little_bytes 4 (length ranges) ++ flat_map range_bytes ranges ≡ ranges_bytes ranges
unfolding ranges_bytes
some_bytes [] some = absurd (omega (arith, some))
some_bytes (range ∷ later) some = refl

some_magic : (ranges : List DeletedRange) → 1 ≤ length ranges → magic_for ranges ≡ ranges_magic
some_magic [] some = absurd (omega (arith, some))
some_magic (range ∷ later) some = refl

pub record AllWritten (has : Bool) (rest : Bytes) : Type 0 where
  pub written : ranges_bytes (all_ranges_in has rest) ≡ rest
  pub are : AreIndexRanges (all_ranges_in has rest)
  pub magic : magic_for (all_ranges_in has rest) ≡ cond has ranges_magic index_magic

pub all_written : (has : Bool) (place : ℕ) (rest : Bytes) → IsBytes rest → all_ranges_fault has place rest ≡ None → AllWritten has rest
unfolding all_ranges_fault all_ranges_in ranges_fault ranges_bytes
all_written false place rest bytes none =
    let le : length rest ≤ 0 = ltb-false 0 (length rest) (kept (nat_lt 0 (length rest)) place 7 None none).0 in
    record {
      written = sym (nil_from_length rest (omega (arith, le)));
      are = record { sound = record { are = tt; rise = tt; bounds = tt }; few = omega arith };
      magic = refl;
    }
all_written true place rest bytes none =
    let a = kept _ _ _ _ none in
    let b = kept _ _ _ _ a.1 in
    let n = ranges_count_in rest in
    let within : 4 ≤ length rest = ltb-false _ _ a.0 in
    let found = ranges_written n (place + 4) [] (drop 4 rest) (IsBytes-drop 4 rest bytes) b.1 in
    let ranges = ranges_in n (drop 4 rest) in
    let some : 1 ≤ length ranges = omega (arith, found.many, positive n (sym b.0)) in
    record {
      written = sym (some_bytes ranges some)
          ∙ ap₂ (λ (m : ℕ) (l : Bytes). little_bytes 4 m ++ l) found.many found.written
          ∙ ap (λ (l : Bytes). l ++ drop 4 rest) (number_back 4 rest bytes (omega (arith, within)))
          ∙ take-append-drop 4 rest;
      are = record {
        sound = record { are = found.are; rise = (rises_of [] ranges found.above found.are).1; bounds = found.bounds };
        few = omega (arith, found.many, number_below 4 rest bytes (omega (arith, within)));
      };
      magic = some_magic ranges some;
    }
