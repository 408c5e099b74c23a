-- A source with entries that says nothing from a key on lies below it, and so outputs lie below one another.
use Rattle.std.proofs.Common.{◌≡◌, ◌≢◌, List, [], ◌∷◌, ◌++◌, refl, sym, ap, ap₂, ◌∙◌, Bool, true, false, cond, not}
use Rattle.std.specs.Prelude.{◌&&◌, ◌||◌, Option, Some, None, bytes_eq}
use Rattle.std.specs.List.{AllByRecursion}
use Rattle.std.specs.Option.{option_or}
use Rattle.std.proofs.lemmas.Bool.{false≢true}
use Rattle.key_base.specs.ByteOrder.{Bytes, IsBefore, is_before}
use Rattle.map_model.proofs.Between.{before_less}
use Rattle.map_model.proofs.Maps.{same_key}
use Rattle.entry_model.specs.Entries.{Entry, first_key, last_key}
use Rattle.entry_model.specs.Newest.{lookup}
use Rattle.range_model.specs.Ranges.{DeletedRange, IsDeletedRange, covers, greater_key, is_covered, ranges_below, ranges_from}
use Rattle.range_model.specs.Sources.{IsSource, Source, alone, cleared, says}
use Rattle.range_model.specs.Outputs.{ComesFrom, HasEntries, all_entries, with_ranges}
use Rattle.range_model.specs.Reach.{lies_below, reach}
use Rattle.range_model.specs.Laws.{OutputsLieApart, SilentFrom}
use Rattle.range_model.proofs.KeyOrders.{is_before_of, not_before_itself, not_before_less, test_from}
use Rattle.range_model.proofs.Ranges.{covers_below}
use Rattle.range_model.proofs.Reach.{both}
use Rattle.range_model.proofs.Outputs.{none_before}
use Rattle.range_model.proofs.SoundOutputs.{outputs_are, outputs_are_cut, rest_is}

-- ---- no key comes before the empty one

pub before_none : (key : Bytes) → is_before key [] ≡ false
before_none [] = refl
before_none (byte ∷ more) = refl

-- entries alone lie below a key where their last one comes before it
pub alone_below : (entries : List Entry) (key : Bytes) → IsBefore (last_key entries) key → lies_below (alone entries) key ≡ true
alone_below entries key less = ap₂ (λ (x y : Bool). x && not y) (is_before_of (last_key entries) key less) (before_none key)

-- and so does the last entry of all that lies below it
pub last_below : (s : Source) (key : Bytes) → lies_below s key ≡ true → IsBefore (last_key s.entries) key
last_below s key below = before_less (last_key s.entries) key (both (is_before (last_key s.entries) key) (is_before key (reach s.ranges)) below).0

-- ---- what is said at the ends

has_last : (entry : Entry) (later : List Entry) → lookup (entry ∷ later) (last_key (entry ∷ later)) ≢ None
has_last entry [] none = let bad : Some entry.value ≡ None = sym (ap (λ (t : Bool). cond t (Some entry.value) None) (same_key entry.key)) ∙ none in cc
has_last entry (next ∷ later) none = elim (bytes_eq entry.key (last_key (next ∷ later))) as (λ t. cond t (Some entry.value) (lookup (next ∷ later) (last_key (next ∷ later))) ≡ None → ⊥) [
  | true ↦ λ bad. cc
  | false ↦ λ e. has_last next later e
] none

or_true : (x : Bool) → (x || true) ≡ true
or_true true = refl
or_true false = refl

-- a key from this one on that is covered
record Covered (ranges : List DeletedRange) (at : Bytes) : Type 0 where
  key : Bytes
  from : is_before key at ≡ false
  is : covers ranges key ≡ true

covered_by : (range : DeletedRange) (at : Bytes) → IsDeletedRange range → is_before at range.hi ≡ true → is_covered range (greater_key range.lo at) ≡ true
covered_by range at is less = elim (is_before range.lo at) as (λ t. is_before range.lo at ≡ t → is_covered range (cond t at range.lo) ≡ true) [
  | true ↦ λ e. ap₂ (λ (x y : Bool). not x && y) (not_before_less at range.lo (before_less range.lo at e)) less
  | false ↦ λ _. ap₂ (λ (x y : Bool). not x && y) (not_before_itself range.lo range.lo refl) (is_before_of range.lo range.hi is)
] refl

greater_from : (lo at : Bytes) → is_before (greater_key lo at) at ≡ false
greater_from lo at = elim (is_before lo at) as (λ t. is_before lo at ≡ t → is_before (cond t at lo) at ≡ false) [
  | true ↦ λ _. not_before_itself at at refl
  | false ↦ λ e. e
] refl

covered_at : (ranges : List DeletedRange) (at : Bytes) → AllByRecursion IsDeletedRange ranges → is_before at (reach ranges) ≡ true → Covered ranges at
covered_at [] at all less = absurd (false≢true (sym (before_none at) ∙ less))
covered_at (range ∷ []) at all less = record {
  key = greater_key range.lo at;
  from = greater_from range.lo at;
  is = ap (λ (t : Bool). t || false) (covered_by range at all.0 less);
}
covered_at (range ∷ next ∷ later) at all less =
    let rest = covered_at (next ∷ later) at all.1 less in
    record { key = rest.key; from = rest.from; is = ap (λ (t : Bool). is_covered range rest.key || t) rest.is ∙ or_true (is_covered range rest.key) }

-- a source that covers a key says something of it
covered_said : (found : Option (Option Bytes)) (c : Bool) → c ≡ true → option_or found (cleared c) ≡ None → ⊥
covered_said (Some v) c e none = cc
covered_said None true e none = cc
covered_said None false e none = cc

found_said : (found other : Option (Option Bytes)) → option_or found other ≡ None → found ≡ None
found_said (Some v) other none = cc
found_said None other none = refl

no_covered : (s : Source) (at : Bytes) → AllByRecursion IsDeletedRange s.ranges → ((key : Bytes) → is_before key at ≡ false → says s key ≡ None) → is_before at (reach s.ranges) ≡ false
no_covered s at all silent = elim (is_before at (reach s.ranges)) as (λ t. is_before at (reach s.ranges) ≡ t → t ≡ false) [
  | true ↦ λ e. let c = covered_at s.ranges at all e in absurd (covered_said (lookup s.entries c.key) (covers s.ranges c.key) c.is (silent c.key c.from))
  | false ↦ λ _. refl
] refl

last_before : (entries : List Entry) (at : Bytes) → entries ≢ [] → ((key : Bytes) → is_before key at ≡ false → lookup entries key ≡ None) → is_before (last_key entries) at ≡ true
last_before [] at some silent = absurd (some refl)
last_before (entry ∷ later) at some silent = elim (is_before (last_key (entry ∷ later)) at) as (λ t. is_before (last_key (entry ∷ later)) at ≡ t → t ≡ true) [
  | true ↦ λ _. refl
  | false ↦ λ e. absurd (has_last entry later (silent (last_key (entry ∷ later)) e))
] refl

pub silent_from : SilentFrom
silent_from s at is some silent = ap₂ (λ (x y : Bool). x && not y)
    (last_before s.entries at some (λ key from. found_said (lookup s.entries key) (cleared (covers s.ranges key)) (silent key from)))
    (no_covered s at is.ranges silent)

-- ---- outputs

-- a key that is not before one that is not before a third one
not_before_then : (key at from : Bytes) → is_before at from ≡ false → is_before key at ≡ false → is_before key from ≡ false
not_before_then key at from e f = elim (is_before key from) as (λ t. is_before key from ≡ t → t ≡ false) [
  | true ↦ λ less. absurd (false≢true (sym f ∙ test_from key from at e less))
  | false ↦ λ _. refl
] refl

and_false : (x : Bool) → (x && false) ≡ false
and_false true = refl
and_false false = refl

first_from : (at : Bytes) (output more : List Entry) → HasEntries output → AllByRecursion (ComesFrom at) (output ++ more) → is_before (first_key output) at ≡ false
first_from at [] more some all = absurd (some refl)
first_from at (entry ∷ later) more some all = all.0

rest_from : (at : Bytes) (output more : List Entry) → AllByRecursion (ComesFrom at) (output ++ more) → AllByRecursion (ComesFrom at) more
rest_from at [] more all = all
rest_from at (entry ∷ later) more all = rest_from at later more all.1

-- outputs whose entries all come from a key on begin there
each_from : (outputs : List (List Entry)) (ranges : List DeletedRange) (at : Bytes) → AllByRecursion HasEntries outputs → AllByRecursion (ComesFrom at) (all_entries outputs)
    → AllByRecursion (λ (u : Source). is_before (first_key u.entries) at ≡ false) (with_ranges outputs ranges)
each_from [] ranges at some from = tt
each_from (output ∷ []) ranges at some from = (first_from at output [] some.0 from, tt)
each_from (output ∷ next ∷ more) ranges at some from =
    (first_from at output (all_entries (next ∷ more)) some.0 from, each_from (next ∷ more) (ranges_from ranges (first_key next)) at some.1 (rest_from at output (all_entries (next ∷ more)) from))

lie_below : (s : Source) (at : Bytes) (later : List Source) → IsSource s → s.entries ≢ [] → ((key : Bytes) → is_before key at ≡ false → says s key ≡ None)
    → AllByRecursion (λ (u : Source). is_before (first_key u.entries) at ≡ false) later → AllByRecursion (λ (u : Source). lies_below s (first_key u.entries) ≡ true) later
lie_below s at [] is some silent from = tt
lie_below s at (u ∷ later) is some silent from =
    (silent_from s (first_key u.entries) is some (λ key e. silent key (not_before_then key (first_key u.entries) at from.0 e)), lie_below s at later is some silent from.1)

pub outputs_lie_apart : OutputsLieApart
outputs_lie_apart [] ranges some is = tt
outputs_lie_apart (output ∷ []) ranges some is = (tt, tt)
outputs_lie_apart (output ∷ [] ∷ more) ranges some is = absurd (some.1.0 refl)
outputs_lie_apart (output ∷ (first ∷ next) ∷ more) ranges some is =
    let at = first.key in
    let rest = ranges_from ranges at in
    let cut = outputs_are_cut (output ∷ (first ∷ next) ∷ more) some is.rises in
    let silent = λ (key : Bytes) (e : is_before key at ≡ false). ap₂ (λ (o : Option (Option Bytes)) (t : Bool). option_or o (cleared t)) (none_before at key output cut.0 e)
    (covers_below ranges at key ∙ ap (λ (t : Bool). covers ranges key && t) e ∙ and_false (covers ranges key)) in (
      lie_below (record { entries = output; ranges = ranges_below ranges at }) at (with_ranges ((first ∷ next) ∷ more) rest) (outputs_are (output ∷ (first ∷ next) ∷ more) ranges some is).0 some.0 silent
          (each_from ((first ∷ next) ∷ more) rest at some.1 cut.1),
      outputs_lie_apart ((first ∷ next) ∷ more) rest some.1 (rest_is output first next more ranges some is),
    )
