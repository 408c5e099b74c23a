-- How the rules of ranges go on from one range to the next, and what the ranges are that were read so far.
use Rattle.std.proofs.Common.{◌≡◌, ◌≤◌, ◌<◌, ◌+◌, ◌-◌, ℕ, suc, Bool, List, [], ◌∷◌, ◌++◌, length, drop, get_or, sym, ap, ◌∙◌, arith, append_assoc}
use Rattle.std.specs.Option.{option_or}
use Rattle.std.specs.Prelude.{Option, Some, None, flat_map}
use Rattle.std.specs.List.{AllByRecursion}
use Rattle.std.proofs.lemmas.List.{append-nil}
use Rattle.std.proofs.Math.Seq.{drop-cons}
use Rattle.std.proofs.lemmas.Bool.{le-ltb, lt-ltb}
use Rattle.byte_fields.specs.Faults.{Fault, fault, refuse}
use Rattle.key_base.specs.ByteOrder.{Bytes, IsBefore}
use Rattle.range_model.specs.Ranges.{AreRanges, DeletedRange, HasBounds, IsDeletedRange, LiesAbove, RangesRise, range_of}
use Rattle.range_model.proofs.KeyOrders.{before_then}
use Rattle.block_model.specs.Index.{range_bytes}
use Rattle.block_model.specs.IndexReading.{range_fault, range_in, range_width_in, ranges_fault, ranges_in}

module _ (n place : ℕ) (before rest : Bytes) (some : 0 < n) where
  one_more : n ≡ suc (n - 1)
  one_more = omega (arith, some)

  abbrev later : Option Fault
  later = ranges_fault (n - 1) (place + range_width_in rest) (range_in rest).hi (drop (range_width_in rest) rest)

  pub next_kept : range_fault place before rest ≡ None → ranges_fault n place before rest ≡ later
  unfolding ranges_fault
  next_kept none = ap (λ (k : ℕ). ranges_fault k place before rest) one_more ∙ ap (λ (f : Option Fault). option_or f later) none

  pub next_broken : (f : Fault) → range_fault place before rest ≡ Some f → ranges_fault n place before rest ≡ Some f
  unfolding ranges_fault
  next_broken f broken = ap (λ (k : ℕ). ranges_fault k place before rest) one_more ∙ ap (λ (g : Option Fault). option_or g later) broken

pub none_is_left : (n place : ℕ) (before rest : Bytes) → n ≡ 0 → length rest ≤ 0 → ranges_fault n place before rest ≡ None
unfolding ranges_fault
none_is_left n place before rest zero none = ap (λ (k : ℕ). ranges_fault k place before rest) zero ∙ ap (λ (t : Bool). refuse t place 7 None) (le-ltb 0 (length rest) none)

pub some_are_left : (n place : ℕ) (before rest : Bytes) → n ≡ 0 → 0 < length rest → ranges_fault n place before rest ≡ Some (fault place 7)
unfolding ranges_fault
some_are_left n place before rest zero some = ap (λ (k : ℕ). ranges_fault k place before rest) zero ∙ ap (λ (t : Bool). refuse t place 7 None) (lt-ltb 0 (length rest) some)

-- ---- what is read

pub next_read : (n : ℕ) (rest : Bytes) (found : List DeletedRange) → 0 < n
    → found ++ ranges_in n rest ≡ (found ++ range_in rest ∷ []) ++ ranges_in (n - 1) (drop (range_width_in rest) rest)
unfolding ranges_in
next_read n rest found some =
    let one : n ≡ suc (n - 1) = omega (arith, some) in
    ap (λ (k : ℕ). found ++ ranges_in k rest) one ∙ sym (append_assoc found (range_in rest ∷ []) (ranges_in (n - 1) (drop (range_width_in rest) rest)))

pub all_read : (n : ℕ) (rest : Bytes) (found : List DeletedRange) → n ≡ 0 → found ++ ranges_in n rest ≡ found
unfolding ranges_in
all_read n rest found zero = ap (λ (k : ℕ). found ++ ranges_in k rest) zero ∙ append-nil found

-- ---- ranges with one more after the last

all_more : (P : DeletedRange → Type 0) (ranges : List DeletedRange) (new : DeletedRange) → AllByRecursion P ranges → P new → AllByRecursion P (ranges ++ new ∷ [])
all_more P [] new all is = (is, tt)
all_more P (range ∷ ranges) new all is = (all.0, all_more P ranges new all.1 is)

last_of : (P : DeletedRange → Type 0) (ranges : List DeletedRange) (last : DeletedRange) → AllByRecursion P (ranges ++ last ∷ []) → P last
last_of P [] last all = all.0
last_of P (range ∷ ranges) last all = last_of P ranges last all.1

rise_more : (ranges : List DeletedRange) (last new : DeletedRange) → AllByRecursion IsDeletedRange (ranges ++ last ∷ []) → RangesRise (ranges ++ last ∷ [])
    → IsBefore last.hi new.lo → RangesRise ((ranges ++ last ∷ []) ++ new ∷ [])
rise_more [] last new are rise less = ((less, tt), (tt, tt))
rise_more (range ∷ ranges) last new are rise less =
    let above = last_of (LiesAbove range.hi) ranges last rise.0 in
    let is = last_of IsDeletedRange ranges last are.1 in (
      all_more (LiesAbove range.hi) (ranges ++ last ∷ []) new rise.0 (before_then range.hi last.lo new.lo above (before_then last.lo last.hi new.lo is less)),
      rise_more ranges last new are.1 rise.1 less,
    )

pub one_more_range : (ranges : List DeletedRange) (last new : DeletedRange) → AreRanges (ranges ++ last ∷ []) → IsBefore last.hi new.lo → IsDeletedRange new → HasBounds new
    → AreRanges ((ranges ++ last ∷ []) ++ new ∷ [])
one_more_range ranges last new all less is has = record {
  are = all_more IsDeletedRange (ranges ++ last ∷ []) new all.are is;
  rise = rise_more ranges last new all.are all.rise less;
  bounds = all_more HasBounds (ranges ++ last ∷ []) new all.bounds has;
}

-- ---- ranges that are written

pub next_written : (ranges : List DeletedRange) (i : ℕ) (range : DeletedRange) (out : Bytes) → i < length ranges → range ≡ get_or ranges i (range_of [] [])
    → out ++ flat_map range_bytes (drop i ranges) ≡ (out ++ range_bytes range) ++ flat_map range_bytes (drop (i + 1) ranges)
next_written ranges i range out lt is =
    let one : suc i ≡ i + 1 = omega arith in
    ap (λ (l : List DeletedRange). out ++ flat_map range_bytes l) (drop-cons ranges i (range_of [] []) lt)
    ∙ ap (λ (r : DeletedRange). out ++ (range_bytes r ++ flat_map range_bytes (drop (suc i) ranges))) (sym is)
    ∙ ap (λ (k : ℕ). out ++ (range_bytes range ++ flat_map range_bytes (drop k ranges))) one
    ∙ sym (append_assoc out (range_bytes range) (flat_map range_bytes (drop (i + 1) ranges)))
