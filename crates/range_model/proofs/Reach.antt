-- What a sound source says nothing of: keys below its first one, and those from a key on below which it lies.
use Rattle.std.proofs.Common.{◌≡◌, List, [], ◌∷◌, refl, sym, ap, ap₂, ◌∙◌, Bool, true, false, not}
use Rattle.std.specs.Prelude.{◌&&◌, ◌||◌, Option}
use Rattle.std.specs.List.{AllByRecursion}
use Rattle.std.specs.Option.{option_or}
use Rattle.std.proofs.lemmas.Bool.{false≢true}
use Rattle.key_base.specs.ByteOrder.{Bytes, IsBefore, is_before}
use Rattle.map_model.proofs.Between.{before_less}
use Rattle.entry_model.specs.Entries.{Entry, first_key, last_key}
use Rattle.entry_model.specs.Newest.{ComesBefore, ComesBehind, KeysRise}
use Rattle.range_model.specs.Ranges.{DeletedRange, IsDeletedRange, RangesRise, covers, is_covered}
use Rattle.range_model.specs.Sources.{BeginsAtOne, cleared}
use Rattle.range_model.specs.Outputs.{ComesFrom}
use Rattle.range_model.specs.Reach.{reach}
use Rattle.range_model.specs.Laws.{NothingBelow, NothingFrom}
use Rattle.range_model.proofs.KeyOrders.{before_then, from_before, is_before_of, not_before_itself, not_before_less, test_from}
use Rattle.range_model.proofs.Outputs.{none_before, none_behind}

-- ---- below the first key

from_first : (entry : Entry) (later : List Entry) → AllByRecursion (ComesBehind entry.key) later → AllByRecursion (ComesFrom entry.key) later
from_first entry [] all = tt
from_first entry (next ∷ later) all = (not_before_less next.key entry.key all.0, from_first entry later all.1)

all_from_first : (entries : List Entry) → KeysRise entries → AllByRecursion (ComesFrom (first_key entries)) entries
all_from_first [] rises = tt
all_from_first (entry ∷ later) rises = (not_before_itself entry.key entry.key refl, from_first entry later rises.0)

-- a range that begins at a key of the entries does not cover one below them all
none_covers : (entries : List Entry) (ranges : List DeletedRange) (first key : Bytes) → AllByRecursion (ComesFrom first) entries → AllByRecursion (BeginsAtOne entries) ranges
    → is_before key first ≡ true → covers ranges key ≡ false
none_covers entries [] first key from begin below = refl
none_covers entries (range ∷ later) first key from begin below =
    let less : is_before key range.lo ≡ true = elim (is_before range.lo first) as (λ t. is_before range.lo first ≡ t → is_before key range.lo ≡ true) [
      | true ↦ λ e. absurd (begin.0 (none_behind first range.lo entries from e))
      | false ↦ λ e. test_from key first range.lo e below
    ] refl in
    ap₂ (λ (x y : Bool). x || y) (ap (λ (t : Bool). not t && is_before key range.hi) less) (none_covers entries later first key from begin.1 below)

pub nothing_below : NothingBelow
nothing_below s key is below =
    let from = all_from_first s.entries is.rises in
    ap₂ (λ (o : Option (Option Bytes)) (t : Bool). option_or o (cleared t)) (none_behind (first_key s.entries) key s.entries from below)
    (none_covers s.entries s.ranges (first_key s.entries) key from is.begin below)

-- ---- from a key on

all_before_last : (entries : List Entry) (at : Bytes) → KeysRise entries → IsBefore (last_key entries) at → AllByRecursion (ComesBefore at) entries
all_before_last [] at rises less = tt
all_before_last (entry ∷ []) at rises less = (less, tt)
all_before_last (entry ∷ next ∷ later) at rises less =
    let all = all_before_last (next ∷ later) at rises.1 less in
    (before_then entry.key next.key at rises.0.0 all.0, all)

-- the range ends at the reach or before it
highest : (range : DeletedRange) (later : List DeletedRange) (at : Bytes) → AllByRecursion IsDeletedRange (range ∷ later) → RangesRise (range ∷ later) → is_before at (reach (range ∷ later)) ≡ false → is_before at range.hi ≡ false
highest range [] at all rise end = end
highest range (next ∷ later) at all rise end = elim (is_before at range.hi) as (λ t. is_before at range.hi ≡ t → t ≡ false) [
  | true ↦ λ e. absurd (false≢true (sym (highest next later at all.1 rise.1 end)
      ∙ is_before_of at next.hi (before_then at range.hi next.hi (before_less at range.hi e) (before_then range.hi next.lo next.hi rise.0.0 all.1.0))))
  | false ↦ λ _. refl
] refl

-- a range that ends at a key or before it does not cover one from that key on
ended : (range : DeletedRange) (at key : Bytes) → is_before at range.hi ≡ false → is_before key at ≡ false → is_covered range key ≡ false
ended range at key e from = elim (is_before key range.hi) as (λ t. is_before key range.hi ≡ t → (not (is_before key range.lo) && t) ≡ false) [
  | true ↦ λ less. absurd (false≢true (sym e ∙ is_before_of at range.hi (from_before at key range.hi from (before_less key range.hi less))))
  | false ↦ λ _. elim (is_before key range.lo) as (λ t. (not t && false) ≡ false) [ true ↦ refl | false ↦ refl ]
] refl

none_ends : (ranges : List DeletedRange) (at key : Bytes) → AllByRecursion IsDeletedRange ranges → RangesRise ranges → is_before at (reach ranges) ≡ false → is_before key at ≡ false → covers ranges key ≡ false
none_ends [] at key all rise end from = refl
none_ends (range ∷ []) at key all rise end from = ap (λ (t : Bool). t || false) (ended range at key end from)
none_ends (range ∷ next ∷ later) at key all rise end from =
    ap₂ (λ (x y : Bool). x || y) (ended range at key (highest range (next ∷ later) at all rise end) from) (none_ends (next ∷ later) at key all.1 rise.1 end from)

pub both : (x y : Bool) → (x && not y) ≡ true → (x ≡ true) × (y ≡ false)
both true false e = (refl, refl)
both true true e = absurd (false≢true e)
both false y e = absurd (false≢true e)

pub nothing_from : NothingFrom
nothing_from s at key is below from =
    let parts = both (is_before (last_key s.entries) at) (is_before at (reach s.ranges)) below in
    ap₂ (λ (o : Option (Option Bytes)) (t : Bool). option_or o (cleared t))
    (none_before at key s.entries (all_before_last s.entries at is.rises (before_less (last_key s.entries) at parts.0)) from)
    (none_ends s.ranges at key is.ranges is.apart parts.1 from)
