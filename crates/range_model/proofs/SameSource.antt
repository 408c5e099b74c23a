-- The changes that a sound source is make it again; entries alone make no range; what the ranges of changes cover.
use Rattle.std.proofs.Common.{◌≡◌, List, [], ◌∷◌, ◌++◌, map, refl, sym, ap, ap₂, ◌∙◌, subst, Bool, true, false, cond, append_assoc, append-nil}
use Rattle.std.specs.Prelude.{◌||◌, None, flat_map, fold}
use Rattle.std.specs.List.{AllByRecursion}
use Rattle.std.specs.Option.{option_or}
use Rattle.std.proofs.lemmas.List.Sums.{fold-append}
use Rattle.key_base.specs.ByteOrder.{Bytes, IsBefore, is_before}
use Rattle.map_model.proofs.Between.{before_less}
use Rattle.entry_model.specs.Entries.{Entry}
use Rattle.entry_model.specs.Newest.{lookup, with_entry}
use Rattle.entry_model.proofs.Newest.{one_list}
use Rattle.range_model.specs.Ranges.{DeletedRange, HasBounds, IsDeletedRange, LiesAbove, RangesRise, covers, is_covered, joined_range, with_range}
use Rattle.range_model.specs.Sources.{Change, Clears, ClearsKeys, Sets, Source, changes_in, empty_source, source_of, with_change, with_cleared}
use Rattle.range_model.specs.Hiding.{oldest_changes}
use Rattle.range_model.specs.Laws.{RangesTogether, SetsAlone, SourceAgain, SourceHasBounds}
use Rattle.range_model.proofs.Clearing.{none_within}
use Rattle.range_model.proofs.KeyOrders.{is_before_of}
use Rattle.range_model.proofs.RangeLaws.{bounds_with}
use Rattle.range_model.proofs.Ranges.{covers_with, or_again}
use Rattle.range_model.proofs.Shown.{merge_rises, merge_shows}
use Rattle.range_model.proofs.Sources.{or_none, ranges_after}

-- ---- entries alone

sets_after : (start : Source) (entries : List Entry) → fold with_change start (map Sets entries) ≡ record { entries = fold with_entry start.entries entries; ranges = start.ranges }
sets_after start [] = refl
sets_after start (entry ∷ later) = sets_after (with_change start (Sets entry)) later

pub sets_alone : SetsAlone
sets_alone entries = sets_after empty_source entries

-- ---- the same source

abbrev EndsBefore : Bytes → DeletedRange → Type 0
EndsBefore key range = IsBefore range.hi key

with_last : (ranges : List DeletedRange) (new : DeletedRange) → AllByRecursion (EndsBefore new.lo) ranges → with_range ranges new ≡ ranges ++ new ∷ []
with_last [] new all = refl
with_last (range ∷ later) new all =
    ap (λ (t : Bool). cond t (range ∷ with_range later new) (cond (is_before new.hi range.lo) (new ∷ range ∷ later) (with_range later (joined_range range new)))) (is_before_of range.hi new.lo all.0)
    ∙ ap (λ (l : List DeletedRange). range ∷ l) (with_last later new all.1)

above_second : (low : Bytes) (xs ys : List DeletedRange) → AllByRecursion (LiesAbove low) (xs ++ ys) → AllByRecursion (LiesAbove low) ys
above_second low [] ys all = all
above_second low (x ∷ xs) ys all = above_second low xs ys all.1

ends_before : (done : List DeletedRange) (new : DeletedRange) (more : List DeletedRange) → RangesRise (done ++ new ∷ more) → AllByRecursion (EndsBefore new.lo) done
ends_before [] new more rise = tt
ends_before (range ∷ later) new more rise = ((above_second range.hi later (new ∷ more) rise.0).0, ends_before later new more rise.1)

ranges_again : (start : Source) (done more : List DeletedRange) → start.ranges ≡ done → AllByRecursion IsDeletedRange more → RangesRise (done ++ more)
    → (fold with_change start (map Clears more)).ranges ≡ done ++ more
ranges_again start done [] same all rise = same ∙ sym (append-nil done)
ranges_again start done (new ∷ more) same all rise =
    ranges_again (with_change start (Clears new)) (done ++ new ∷ []) more
    (ap (λ (t : Bool). (cond t (with_cleared start new) start).ranges) (is_before_of new.lo new.hi all.0)
    ∙ ap (λ (l : List DeletedRange). with_range l new) same
    ∙ with_last done new (ends_before done new more rise))
    all.1
    (subst RangesRise (sym (append_assoc done (new ∷ []) more)) rise)
    ∙ append_assoc done (new ∷ []) more

same_source : (one other : Source) → one.entries ≡ other.entries → one.ranges ≡ other.ranges → one ≡ other
same_source one other entries ranges i = record { entries = entries i; ranges = ranges i }

pub source_again : SourceAgain
source_again s is =
    let cleared = fold with_change empty_source (map Clears s.ranges) in
    let made = fold-append with_change empty_source (map Clears s.ranges) (map Sets s.entries) in
    same_source (source_of (changes_in s)) s
    (one_list (source_of (changes_in s)).entries s.entries (merge_rises empty_source (changes_in s) tt) is.rises
    (λ key. merge_shows empty_source s key is
    ∙ elim (covers s.ranges key) as (λ t. option_or (lookup s.entries key) (cond t None None) ≡ lookup s.entries key) [ true ↦ or_none (lookup s.entries key) | false ↦ or_none (lookup s.entries key) ]))
    (ap (λ (x : Source). x.ranges) (made ∙ sets_after cleared s.entries) ∙ ranges_again empty_source [] s.ranges refl is.ranges is.apart)

-- ---- bounds

bounds_after : (start : Source) (change : Change) → AllByRecursion HasBounds start.ranges → ClearsKeys change → AllByRecursion HasBounds (with_change start change).ranges
bounds_after start (Sets entry) all is = all
bounds_after start (Clears range) all is = elim (is_before range.lo range.hi) as (λ t. AllByRecursion HasBounds (cond t (with_cleared start range) start).ranges) [
  | true ↦ bounds_with start.ranges range all is
  | false ↦ all
]

pub source_has_bounds : SourceHasBounds
source_has_bounds start [] all keys = all
source_has_bounds start (change ∷ later) all keys = source_has_bounds (with_change start change) later (bounds_after start change all keys.0) keys.1

-- ---- what the ranges of changes cover

abbrev are_cleared : List Change → Bytes → Bool
are_cleared [] key = false
are_cleared (Sets entry ∷ later) key = are_cleared later key
are_cleared (Clears range ∷ later) key = is_covered range key || are_cleared later key

or_swap : (x y z : Bool) → (x || (y || z)) ≡ ((y || x) || z)
or_swap true true z = refl
or_swap true false z = refl
or_swap false true z = refl
or_swap false false z = refl

covers_change : (start : Source) (range : DeletedRange) (key : Bytes) → AllByRecursion IsDeletedRange start.ranges
    → covers (with_change start (Clears range)).ranges key ≡ (is_covered range key || covers start.ranges key)
covers_change start range key all =
    elim (is_before range.lo range.hi) as (λ t. is_before range.lo range.hi ≡ t → covers (cond t (with_cleared start range) start).ranges key ≡ (is_covered range key || covers start.ranges key)) [
      | true ↦ λ e. covers_with start.ranges range key all (before_less range.lo range.hi e)
      | false ↦ λ e. sym (ap (λ (t : Bool). t || covers start.ranges key) (none_within range.lo range.hi key e))
    ] refl

covers_after : (start : Source) (changes : List Change) (key : Bytes) → AllByRecursion IsDeletedRange start.ranges
    → covers (fold with_change start changes).ranges key ≡ (are_cleared changes key || covers start.ranges key)
covers_after start [] key all = refl
covers_after start (Sets entry ∷ later) key all = covers_after (with_change start (Sets entry)) later key all
covers_after start (Clears range ∷ later) key all =
    covers_after (with_change start (Clears range)) later key (ranges_after start (Clears range) all)
    ∙ ap (λ (t : Bool). are_cleared later key || t) (covers_change start range key all)
    ∙ or_swap (are_cleared later key) (is_covered range key) (covers start.ranges key)

cleared_both : (xs ys : List Change) (key : Bytes) → are_cleared (xs ++ ys) key ≡ (are_cleared xs key || are_cleared ys key)
cleared_both [] ys key = refl
cleared_both (Sets entry ∷ xs) ys key = cleared_both xs ys key
cleared_both (Clears range ∷ xs) ys key = ap (λ (t : Bool). is_covered range key || t) (cleared_both xs ys key) ∙ sym (or_again (is_covered range key) (are_cleared xs key) (are_cleared ys key))

cleared_sets : (entries : List Entry) (key : Bytes) → are_cleared (map Sets entries) key ≡ false
cleared_sets [] key = refl
cleared_sets (entry ∷ later) key = cleared_sets later key

cleared_ranges : (ranges : List DeletedRange) (key : Bytes) → are_cleared (map Clears ranges) key ≡ covers ranges key
cleared_ranges [] key = refl
cleared_ranges (range ∷ later) key = ap (λ (t : Bool). is_covered range key || t) (cleared_ranges later key)

or_false : (x : Bool) → (x || false) ≡ x
or_false true = refl
or_false false = refl

cleared_in : (s : Source) (key : Bytes) → are_cleared (changes_in s) key ≡ covers s.ranges key
cleared_in s key = cleared_both (map Clears s.ranges) (map Sets s.entries) key
    ∙ ap₂ (λ (x y : Bool). x || y) (cleared_ranges s.ranges key) (cleared_sets s.entries key)
    ∙ or_false (covers s.ranges key)

covers_both : (xs ys : List DeletedRange) (key : Bytes) → covers (xs ++ ys) key ≡ (covers xs key || covers ys key)
covers_both [] ys key = refl
covers_both (x ∷ xs) ys key = ap (λ (t : Bool). is_covered x key || t) (covers_both xs ys key) ∙ sym (or_again (is_covered x key) (covers xs key) (covers ys key))

or_other : (x y : Bool) → (x || y) ≡ (y || x)
or_other true true = refl
or_other true false = refl
or_other false true = refl
or_other false false = refl

cleared_oldest : (sources : List Source) (key : Bytes) → are_cleared (oldest_changes sources) key ≡ covers (flat_map (λ (s : Source). s.ranges) sources) key
cleared_oldest [] key = refl
cleared_oldest (s ∷ older) key =
    cleared_both (oldest_changes older) (changes_in s) key
    ∙ ap₂ (λ (x y : Bool). x || y) (cleared_oldest older key) (cleared_in s key)
    ∙ or_other (covers (flat_map (λ (x : Source). x.ranges) older) key) (covers s.ranges key)
    ∙ sym (covers_both s.ranges (flat_map (λ (x : Source). x.ranges) older) key)

pub ranges_together : RangesTogether
ranges_together sources key = covers_after empty_source (oldest_changes sources) key tt ∙ or_false (are_cleared (oldest_changes sources) key) ∙ cleared_oldest sources key
