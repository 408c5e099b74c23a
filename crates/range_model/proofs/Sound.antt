-- Changes of a sound source give one, and as changes it says what it says.
use Rattle.std.proofs.Common.{◌≡◌, ◌≢◌, List, [], ◌∷◌, ◌++◌, map, refl, sym, ap, ap₂, ◌∙◌, subst, Bool, true, false, cond, not}
use Rattle.std.specs.Prelude.{◌&&◌, ◌||◌, Option, Some, None, bytes_eq}
use Rattle.std.specs.List.{AllByRecursion}
use Rattle.std.specs.Option.{option_or}
use Rattle.std.proofs.lemmas.Slice.Eq.{bytes_eq-Decides}
use Rattle.key_base.specs.ByteOrder.{IsBefore, is_before}
use Rattle.map_model.specs.SortedMap.{Bytes}
use Rattle.entry_model.specs.Entries.{Entry, del_entry}
use Rattle.entry_model.specs.Newest.{ComesBehind, KeysRise, with_entry, lookup}
use Rattle.range_model.specs.Ranges.{DeletedRange, IsDeletedRange, LiesAbove, RangesRise, is_covered, covers, lesser_key, joined_range, with_range}
use Rattle.range_model.specs.Sources.{Change, Sets, Clears, Source, IsSource, BeginsAtOne, entries_outside, with_cleared, with_change, cleared, last_said}
use Rattle.range_model.specs.Laws.{SourceIs, ChangesSay}
use Rattle.range_model.proofs.KeyOrders.{at_or_after, before_then, is_before_of, not_before_less}
use Rattle.map_model.proofs.Between.{before_less}
use Rattle.entry_model.proofs.Newest.{lookup_with, none_above, rises_with}
use Rattle.range_model.proofs.Ranges.{joined_is, joined_within, ranges_with}
use Rattle.range_model.proofs.RangeLaws.{above_all, rise_with}
use Rattle.range_model.proofs.Shown.{merge_rises, rises_without}
use Rattle.range_model.proofs.Sources.{lookup_without, or_again, or_none}

-- ---- the first key of each range is one of the entries

-- the first keys of the ranges have something that a new one's has, and those outside of the new one
module _ (P : Bytes → Type 0) where
  abbrev Outside : DeletedRange → DeletedRange → Type 0
  Outside new range = is_covered new range.lo ≡ false → P range.lo

  abbrev AtFirst : DeletedRange → Type 0
  AtFirst range = P range.lo

  behind_out : (new range : DeletedRange) → IsBefore new.hi range.lo → is_covered new range.lo ≡ false
  behind_out new range less = ap (λ (t : Bool). not (is_before range.lo new.lo) && t) (not_before_less range.lo new.hi less) ∙ no (not (is_before range.lo new.lo))
    where
      no : (x : Bool) → (x && false) ≡ false
      no true = refl
      no false = refl

  before_out : (new range : DeletedRange) → IsBefore range.lo new.lo → is_covered new range.lo ≡ false
  before_out new range less = ap (λ (t : Bool). not t && is_before range.lo new.hi) (is_before_of range.lo new.lo less)

  all_behind : (new : DeletedRange) (ranges : List DeletedRange) → AllByRecursion (LiesAbove new.hi) ranges → AllByRecursion (Outside new) ranges → AllByRecursion AtFirst ranges
  all_behind new [] above all = tt
  all_behind new (range ∷ later) above all = (all.0 (behind_out new range above.0), all_behind new later above.1 all.1)

  all_joined : (one new : DeletedRange) (same : (key : Bytes) → is_covered (joined_range one new) key ≡ (is_covered new key || is_covered one key)) (ranges : List DeletedRange) → AllByRecursion (Outside new) ranges → AllByRecursion (Outside (joined_range one new)) ranges
  all_joined one new same [] all = tt
  all_joined one new same (range ∷ later) all = (λ out. all.0 (first_of (is_covered new range.lo) (is_covered one range.lo) (sym (same range.lo) ∙ out)), all_joined one new same later all.1)
    where
      first_of : (x y : Bool) → (x || y) ≡ false → x ≡ false
      first_of true y e = e
      first_of false y e = refl

  first_joined : (one new : DeletedRange) → P new.lo → Outside new one → P (lesser_key one.lo new.lo)
  first_joined one new first out = elim (is_before new.lo one.lo) as (λ t. is_before new.lo one.lo ≡ t → P (cond t new.lo one.lo)) [
    | true ↦ λ _. first
    | false ↦ λ e. at_or_after (P one.lo) new.lo one.lo e (λ same. subst P same first) (λ less. out (before_out new one less))
  ] refl

  begins_with : (ranges : List DeletedRange) (new : DeletedRange) → AllByRecursion IsDeletedRange ranges → RangesRise ranges → IsDeletedRange new → P new.lo → AllByRecursion (Outside new) ranges → AllByRecursion AtFirst (with_range ranges new)
  begins_with [] new all rise is first out = (first, tt)
  begins_with (range ∷ later) new all rise is first out =
      elim (is_before range.hi new.lo) as (λ t. is_before range.hi new.lo ≡ t → AllByRecursion AtFirst (cond t (range ∷ with_range later new) (cond (is_before new.hi range.lo) (new ∷ range ∷ later) (with_range later (joined_range range new))))) [
        | true ↦ λ e. (out.0 (before_out new range (before_then range.lo range.hi new.lo all.0 (before_less range.hi new.lo e))), begins_with later new all.1 rise.1 is first out.1)
        | false ↦ λ apart. elim (is_before new.hi range.lo) as (λ t. is_before new.hi range.lo ≡ t → AllByRecursion AtFirst (cond t (new ∷ range ∷ later) (with_range later (joined_range range new)))) [
          | true ↦ λ e. (first, all_behind new (range ∷ later) (above_all new.hi range later (before_less new.hi range.lo e) all.0 rise) out)
          | false ↦ λ back. begins_with later (joined_range range new) all.1 rise.1 (joined_is range new apart back all.0 is) (first_joined range new first out.0)
              (all_joined range new (joined_within range new apart back all.0 is) later out.1)
        ] refl
      ] refl

some_not : (value : Option Bytes) → Some value ≢ None
some_not value e = let bad : Some value ≡ None = e in cc

-- an entry more takes none away
still_set : (entries : List Entry) (new : Entry) (key : Bytes) → lookup entries key ≢ None → lookup (with_entry entries new) key ≢ None
still_set entries new key is e = elim (bytes_eq new.key key) as (λ t. cond t (Some new.value) (lookup entries key) ≡ None → ⊥) [ true ↦ λ bad. some_not new.value bad | false ↦ λ bad. is bad ] (sym (lookup_with entries new key) ∙ e)

set_now : (entries : List Entry) (new : Entry) → lookup (with_entry entries new) new.key ≢ None
set_now entries new e = some_not new.value (sym (ap (λ (t : Bool). cond t (Some new.value) (lookup entries new.key)) ((bytes_eq-Decides new.key new.key).1 refl)) ∙ sym (lookup_with entries new new.key) ∙ e)

all_still : (entries : List Entry) (new : Entry) (ranges : List DeletedRange) → AllByRecursion (BeginsAtOne entries) ranges → AllByRecursion (BeginsAtOne (with_entry entries new)) ranges
all_still entries new [] all = tt
all_still entries new (range ∷ later) all = (still_set entries new range.lo all.0, all_still entries new later all.1)

all_outside : (entries : List Entry) (new : DeletedRange) (ranges : List DeletedRange) → AllByRecursion (BeginsAtOne entries) ranges
    → AllByRecursion (Outside (λ key. lookup (with_entry (entries_outside entries new) (del_entry new.lo)) key ≢ None) new) ranges
all_outside entries new [] all = tt
all_outside entries new (range ∷ later) all = (
  λ out. still_set (entries_outside entries new) (del_entry new.lo) range.lo (λ e. all.0 (sym (lookup_without entries new range.lo ∙ ap (λ (t : Bool). cond t None (lookup entries range.lo)) out) ∙ e)),
  all_outside entries new later all.1,
)

sound_cleared : (s : Source) (range : DeletedRange) → IsDeletedRange range → IsSource s → KeysRise (with_cleared s range).entries → IsSource (with_cleared s range)
sound_cleared s range is sound rises = record {
  rises = rises;
  ranges = ranges_with s.ranges range sound.ranges is;
  apart = rise_with s.ranges range sound.ranges sound.apart;
  begin = begins_with (λ key. lookup (with_entry (entries_outside s.entries range) (del_entry range.lo)) key ≢ None) s.ranges range sound.ranges sound.apart is
      (set_now (entries_outside s.entries range) (del_entry range.lo)) (all_outside s.entries range s.ranges sound.begin);
}

sound_with : (s : Source) (change : Change) → IsSource s → IsSource (with_change s change)
sound_with s (Sets entry) sound = record {
  rises = merge_rises s (Sets entry ∷ []) sound.rises;
  ranges = sound.ranges;
  apart = sound.apart;
  begin = all_still s.entries entry s.ranges sound.begin;
}
sound_with s (Clears range) sound =
    elim (is_before range.lo range.hi) as (λ t. is_before range.lo range.hi ≡ t → IsSource (cond t (with_cleared s range) s)) [
      | true ↦ λ e. sound_cleared s range (before_less range.lo range.hi e) sound
          (rises_with (entries_outside s.entries range) (del_entry range.lo) (rises_without s.entries range sound.rises))
      | false ↦ λ _. sound
    ] refl

pub source_is : SourceIs
source_is start [] sound = sound
source_is start (change ∷ later) sound = source_is (with_change start change) later (sound_with start change sound)

-- ---- as changes

pub said_both : (xs ys : List Change) (key : Bytes) → last_said (xs ++ ys) key ≡ option_or (last_said ys key) (last_said xs key)
said_both [] ys key = sym (or_none (last_said ys key))
said_both (x ∷ xs) ys key = ap (λ (o : Option (Option Bytes)). option_or o (last_said (x ∷ []) key)) (said_both xs ys key) ∙ sym (or_again (last_said ys key) (last_said xs key) (last_said (x ∷ []) key))

pub said_entries : (entries : List Entry) (key : Bytes) → KeysRise entries → last_said (map Sets entries) key ≡ lookup entries key
said_entries [] key rises = refl
said_entries (entry ∷ more) key rises = elim (bytes_eq entry.key key) as (λ t. bytes_eq entry.key key ≡ t → option_or (last_said (map Sets more) key) (cond t (Some entry.value) None) ≡ cond t (Some entry.value) (lookup more key)) [
  | true ↦ λ e. ap (λ (o : Option (Option Bytes)). option_or o (Some entry.value))
      (said_entries more key rises.1 ∙ none_above key more (subst (λ (k : Bytes). AllByRecursion (ComesBehind k) more) ((bytes_eq-Decides entry.key key).0 e) rises.0))
  | false ↦ λ _. or_none (last_said (map Sets more) key) ∙ said_entries more key rises.1
] refl

said_ranges : (ranges : List DeletedRange) (key : Bytes) → last_said (map Clears ranges) key ≡ cleared (covers ranges key)
said_ranges [] key = refl
said_ranges (range ∷ later) key = ap (λ (o : Option (Option Bytes)). option_or o (cleared (is_covered range key))) (said_ranges later key) ∙ either (is_covered range key) (covers later key)
  where
    either : (w c : Bool) → option_or (cleared c) (cleared w) ≡ cleared (w || c)
    either true true = refl
    either true false = refl
    either false true = refl
    either false false = refl

pub changes_say : ChangesSay
changes_say s key sound = said_both (map Clears s.ranges) (map Sets s.entries) key ∙ ap₂ option_or (said_entries s.entries key sound.rises) (said_ranges s.ranges key)
