-- Entries in outputs are cut, and each output with its part of the ranges of a sound source is one.
use Rattle.std.proofs.Common.{◌≡◌, ◌≢◌, List, [], ◌∷◌, ◌++◌, refl, sym, ap, ◌∙◌, subst, Bool, true, false, cond, append-nil}
use Rattle.std.specs.Prelude.{Option, Some, None}
use Rattle.std.specs.List.{AllByRecursion}
use Rattle.std.specs.Option.{option_or}
use Rattle.key_base.specs.ByteOrder.{Bytes, is_before}
use Rattle.map_model.proofs.Maps.{same_key}
use Rattle.entry_model.specs.Entries.{Entry, first_key}
use Rattle.entry_model.specs.Newest.{ComesBefore, ComesBehind, KeysRise, lookup}
use Rattle.range_model.specs.Ranges.{DeletedRange, greater_key, lesser_key, range_of, ranges_below, ranges_from}
use Rattle.range_model.specs.Sources.{BeginsAtOne, IsSource, Source}
use Rattle.range_model.specs.Outputs.{ComesFrom, HasEntries, all_entries}
use Rattle.range_model.specs.Laws.{NoRanges, OutputsAre, OutputsAreCut, OutputsHaveBounds}
use Rattle.range_model.proofs.KeyOrders.{not_before_itself, not_before_less}
use Rattle.range_model.proofs.RangeLaws.{are_below, are_from, bounds_below, bounds_from, rise_below, rise_from}
use Rattle.range_model.proofs.Outputs.{lookup_both, none_before, none_behind}

-- ---- rising keys in two parts

all_first : (P : Entry → Type 0) (xs ys : List Entry) → AllByRecursion P (xs ++ ys) → AllByRecursion P xs
all_first P [] ys all = tt
all_first P (x ∷ xs) ys all = (all.0, all_first P xs ys all.1)

all_second : (P : Entry → Type 0) (xs ys : List Entry) → AllByRecursion P (xs ++ ys) → AllByRecursion P ys
all_second P [] ys all = all
all_second P (x ∷ xs) ys all = all_second P xs ys all.1

rises_first : (xs ys : List Entry) → KeysRise (xs ++ ys) → KeysRise xs
rises_first [] ys rises = tt
rises_first (x ∷ xs) ys rises = (all_first (ComesBehind x.key) xs ys rises.0, rises_first xs ys rises.1)

rises_second : (xs ys : List Entry) → KeysRise (xs ++ ys) → KeysRise ys
rises_second [] ys rises = rises
rises_second (x ∷ xs) ys rises = rises_second xs ys rises.1

before_second : (xs : List Entry) (y : Entry) (ys : List Entry) → KeysRise (xs ++ y ∷ ys) → AllByRecursion (ComesBefore y.key) xs
before_second [] y ys rises = tt
before_second (x ∷ xs) y ys rises = ((all_second (ComesBehind x.key) xs (y ∷ ys) rises.0).0, before_second xs y ys rises.1)

all_from : (key : Bytes) (entries : List Entry) → AllByRecursion (ComesBehind key) entries → AllByRecursion (ComesFrom key) entries
all_from key [] all = tt
all_from key (entry ∷ later) all = (not_before_less entry.key key all.0, all_from key later all.1)

pub outputs_are_cut : OutputsAreCut
outputs_are_cut [] some rises = tt
outputs_are_cut (output ∷ []) some rises = tt
outputs_are_cut (output ∷ [] ∷ more) some rises = absurd (some.1.0 refl)
outputs_are_cut (output ∷ (first ∷ next) ∷ more) some rises =
    let later = rises_second output (all_entries ((first ∷ next) ∷ more)) rises in (
      before_second output first (next ++ all_entries more) rises,
      (not_before_itself first.key first.key refl, all_from first.key (next ++ all_entries more) later.0),
      outputs_are_cut ((first ∷ next) ∷ more) some.1 later,
    )

-- ---- ranges begin at keys

begin_below : (output rest : List Entry) (ranges : List DeletedRange) (at : Bytes) → AllByRecursion (ComesFrom at) rest → AllByRecursion (BeginsAtOne (output ++ rest)) ranges
    → AllByRecursion (BeginsAtOne output) (ranges_below ranges at)
begin_below output rest [] at from all = tt
begin_below output rest (range ∷ later) at from all =
    elim (is_before range.lo at) as (λ t. is_before range.lo at ≡ t → AllByRecursion (BeginsAtOne output) (cond t (range_of range.lo (lesser_key range.hi at) ∷ ranges_below later at) (ranges_below later at))) [
      | true ↦ λ e. (
        λ none. all.0 (lookup_both output rest range.lo ∙ ap (λ (o : Option (Option Bytes)). option_or o (lookup rest range.lo)) none ∙ none_behind at range.lo rest from e),
        begin_below output rest later at from all.1,
      )
      | false ↦ λ _. begin_below output rest later at from all.1
    ] refl

begin_from : (output rest : List Entry) (ranges : List DeletedRange) (at : Bytes) → AllByRecursion (ComesBefore at) output → lookup rest at ≢ None → AllByRecursion (BeginsAtOne (output ++ rest)) ranges
    → AllByRecursion (BeginsAtOne rest) (ranges_from ranges at)
begin_from output rest [] at before first all = tt
begin_from output rest (range ∷ later) at before first all =
    elim (is_before at range.hi) as (λ t. AllByRecursion (BeginsAtOne rest) (cond t (range_of (greater_key range.lo at) range.hi ∷ ranges_from later at) (ranges_from later at))) [
      | true ↦ (
        elim (is_before range.lo at) as (λ t. is_before range.lo at ≡ t → lookup rest (cond t at range.lo) ≢ None) [
          | true ↦ λ _. first
          | false ↦ λ e none. all.0 (lookup_both output rest range.lo ∙ ap (λ (o : Option (Option Bytes)). option_or o (lookup rest range.lo)) (none_before at range.lo output before e) ∙ none)
        ] refl,
        begin_from output rest later at before first all.1,
      )
      | false ↦ begin_from output rest later at before first all.1
    ]

has_first : (entry : Entry) (later : List Entry) → lookup (entry ∷ later) entry.key ≢ None
has_first entry later none = let bad : Some entry.value ≡ None = sym (ap (λ (t : Bool). cond t (Some entry.value) (lookup later entry.key)) (same_key entry.key)) ∙ none in cc

-- what lies from the first key of the next output on
pub rest_is : (output : List Entry) (first : Entry) (next : List Entry) (more : List (List Entry)) (ranges : List DeletedRange) → AllByRecursion HasEntries (output ∷ (first ∷ next) ∷ more)
    → IsSource (record { entries = all_entries (output ∷ (first ∷ next) ∷ more); ranges = ranges })
    → IsSource (record { entries = all_entries ((first ∷ next) ∷ more); ranges = ranges_from ranges first.key })
rest_is output first next more ranges some is =
    let rest = all_entries ((first ∷ next) ∷ more) in
    let cut = outputs_are_cut (output ∷ (first ∷ next) ∷ more) some is.rises in record {
      rises = rises_second output rest is.rises;
      ranges = are_from ranges first.key is.ranges;
      apart = rise_from ranges first.key is.apart;
      begin = begin_from output rest ranges first.key cut.0 (has_first first (next ++ all_entries more)) is.begin;
    }

pub outputs_are : OutputsAre
outputs_are [] ranges some is = tt
outputs_are (output ∷ []) ranges some is = (subst (λ (l : List Entry). IsSource (record { entries = l; ranges = ranges })) (append-nil output) is, tt)
outputs_are (output ∷ [] ∷ more) ranges some is = absurd (some.1.0 refl)
outputs_are (output ∷ (first ∷ next) ∷ more) ranges some is =
    let rest = all_entries ((first ∷ next) ∷ more) in
    let cut = outputs_are_cut (output ∷ (first ∷ next) ∷ more) some is.rises in (
      record {
        rises = rises_first output rest is.rises;
        ranges = are_below ranges first.key is.ranges;
        apart = rise_below ranges first.key is.apart;
        begin = begin_below output rest ranges first.key cut.1 is.begin;
      },
      outputs_are ((first ∷ next) ∷ more) (ranges_from ranges first.key) some.1 (rest_is output first next more ranges some is),
    )

pub outputs_have_bounds : OutputsHaveBounds
outputs_have_bounds [] ranges keys all = tt
outputs_have_bounds (output ∷ []) ranges keys all = (all, tt)
outputs_have_bounds (output ∷ next ∷ more) ranges keys all =
    (bounds_below ranges (first_key next) keys.1.0 all, outputs_have_bounds (next ∷ more) (ranges_from ranges (first_key next)) keys.1 (bounds_from ranges (first_key next) keys.1.0 all))

pub no_ranges : NoRanges
no_ranges [] = refl
no_ranges (output ∷ []) = refl
no_ranges (output ∷ next ∷ more) = ap (λ (l : List Source). record { entries = output; ranges = [] } ∷ l) (no_ranges (next ∷ more))
