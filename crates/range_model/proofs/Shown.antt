-- The entries behind the changes of a source: its own, and the older ones that its ranges do not hide.
use Rattle.std.proofs.Common.{◌≡◌, List, [], ◌∷◌, ◌++◌, map, refl, sym, ap, ap₂, ◌∙◌, subst, Bool, true, false, cond, not}
use Rattle.std.specs.Prelude.{◌||◌, Option, Some, None, bytes_eq, fold}
use Rattle.std.specs.List.{AllByRecursion}
use Rattle.std.specs.Option.{option_or}
use Rattle.std.proofs.lemmas.Bool.{false≢true}
use Rattle.std.proofs.lemmas.Slice.Eq.{bytes_eq-Decides}
use Rattle.key_base.specs.ByteOrder.{is_before}
use Rattle.map_model.specs.SortedMap.{Bytes}
use Rattle.entry_model.specs.Entries.{Entry, del_entry}
use Rattle.entry_model.specs.Newest.{ComesBehind, KeysRise, lookup}
use Rattle.range_model.specs.Ranges.{DeletedRange, IsDeletedRange, is_covered, covers}
use Rattle.range_model.specs.Sources.{Change, Sets, Clears, Source, BeginsAtOne, entries_outside, with_cleared, with_change, changes_in}
use Rattle.range_model.specs.Laws.{MergeShows, MergeRises}
use Rattle.map_model.proofs.Between.{before_less}
use Rattle.range_model.proofs.Clearing.{none_within}
use Rattle.entry_model.proofs.Newest.{lookup_with, none_above, rises_with}
use Rattle.range_model.proofs.Sources.{first_within, lookup_without}

-- what a change leaves of a key's entry: its own, none, or the older one
abbrev flat_or : Option (Option (Option Bytes)) → Option (Option Bytes) → Option (Option Bytes)
flat_or (Some left) older = left
flat_or None older = older

abbrev left_by : Change → Bytes → Option (Option (Option Bytes))
left_by (Sets entry) key = cond (bytes_eq entry.key key) (Some (Some entry.value)) None
left_by (Clears range) key = cond (is_covered range key) (Some (cond (bytes_eq range.lo key) (Some None) None)) None

abbrev last_left : List Change → Bytes → Option (Option (Option Bytes))
last_left [] key = None
last_left (change ∷ later) key = option_or (last_left later key) (left_by change key)

clears_at : (w b : Bool) (older : Option (Option Bytes)) → (b ≡ true → w ≡ true)
    → cond b (Some None) (cond w None older) ≡ flat_or (cond w (Some (cond b (Some None) None)) None) older
clears_at true true older in_it = refl
clears_at true false older in_it = refl
clears_at false true older in_it = absurd (false≢true (in_it refl))
clears_at false false older in_it = refl

left_cleared : (s : Source) (range : DeletedRange) (key : Bytes) → IsDeletedRange range → lookup (with_cleared s range).entries key ≡ flat_or (left_by (Clears range) key) (lookup s.entries key)
left_cleared s range key is =
    lookup_with (entries_outside s.entries range) (del_entry range.lo) key
    ∙ ap (λ (o : Option (Option Bytes)). cond (bytes_eq range.lo key) (Some None) o) (lookup_without s.entries range key)
    ∙ clears_at (is_covered range key) (bytes_eq range.lo key) (lookup s.entries key)
    (λ here. subst (λ (k : Bytes). is_covered range k ≡ true) ((bytes_eq-Decides range.lo key).0 here) (first_within range is))

left_with : (s : Source) (change : Change) (key : Bytes) → lookup (with_change s change).entries key ≡ flat_or (left_by change key) (lookup s.entries key)
left_with s (Sets entry) key = lookup_with s.entries entry key
    ∙ elim (bytes_eq entry.key key) as (λ t. cond t (Some entry.value) (lookup s.entries key) ≡ flat_or (cond t (Some (Some entry.value)) None) (lookup s.entries key)) [ true ↦ refl | false ↦ refl ]
left_with s (Clears range) key =
    elim (is_before range.lo range.hi) as (λ t. is_before range.lo range.hi ≡ t → lookup (cond t (with_cleared s range) s).entries key ≡ flat_or (left_by (Clears range) key) (lookup s.entries key)) [
      | true ↦ λ e. left_cleared s range key (before_less range.lo range.hi e)
      | false ↦ λ e. sym (ap (λ (t : Bool). flat_or (cond t (Some (cond (bytes_eq range.lo key) (Some None) None)) None) (lookup s.entries key)) (none_within range.lo range.hi key e))
    ] refl

flat_then : (later one : Option (Option (Option Bytes))) (older : Option (Option Bytes)) → flat_or later (flat_or one older) ≡ flat_or (option_or later one) older
flat_then (Some left) one older = refl
flat_then None one older = refl

left_after : (start : Source) (changes : List Change) (key : Bytes) → lookup (fold with_change start changes).entries key ≡ flat_or (last_left changes key) (lookup start.entries key)
left_after start [] key = refl
left_after start (change ∷ later) key = left_after (with_change start change) later key
    ∙ ap (flat_or (last_left later key)) (left_with start change key)
    ∙ flat_then (last_left later key) (left_by change key) (lookup start.entries key)

or_three : (x y z : Option (Option (Option Bytes))) → option_or (option_or x y) z ≡ option_or x (option_or y z)
or_three (Some v) y z = refl
or_three None y z = refl

or_end : (x : Option (Option (Option Bytes))) → x ≡ option_or x None
or_end (Some v) = refl
or_end None = refl

left_both : (xs ys : List Change) (key : Bytes) → last_left (xs ++ ys) key ≡ option_or (last_left ys key) (last_left xs key)
left_both [] ys key = or_end (last_left ys key)
left_both (x ∷ xs) ys key = ap (λ (o : Option (Option (Option Bytes))). option_or o (left_by x key)) (left_both xs ys key) ∙ or_three (last_left ys key) (last_left xs key) (left_by x key)

abbrev own : Option (Option Bytes) → Option (Option (Option Bytes))
own (Some value) = Some (Some value)
own None = None

left_entries : (entries : List Entry) (key : Bytes) → KeysRise entries → last_left (map Sets entries) key ≡ own (lookup entries key)
left_entries [] key rises = refl
left_entries (entry ∷ more) key rises = elim (bytes_eq entry.key key) as (λ t. bytes_eq entry.key key ≡ t → option_or (last_left (map Sets more) key) (cond t (Some (Some entry.value)) None) ≡ own (cond t (Some entry.value) (lookup more key))) [
  | true ↦ λ e. ap (λ (o : Option (Option (Option Bytes))). option_or o (Some (Some entry.value)))
      (left_entries more key rises.1 ∙ ap own (none_above key more (subst (λ (k : Bytes). AllByRecursion (ComesBehind k) more) ((bytes_eq-Decides entry.key key).0 e) rises.0)))
  | false ↦ λ _. sym (or_end (last_left (map Sets more) key)) ∙ left_entries more key rises.1
] refl

-- what is left where ranges hide the key
abbrev hides : Bool → Option (Option (Option Bytes))
hides true = Some None
hides false = None

abbrev left_where : Bool → Bool → Option (Option (Option Bytes))
left_where w t = cond w (Some (cond t (Some None) None)) None

left_none : (w : Bool) → left_where w false ≡ hides w
left_none true = refl
left_none false = refl

-- a key that has no entry is no range's first one
left_ranges : (entries : List Entry) (ranges : List DeletedRange) (key : Bytes) → AllByRecursion (BeginsAtOne entries) ranges → lookup entries key ≡ None
    → last_left (map Clears ranges) key ≡ hides (covers ranges key)
left_ranges entries [] key all none = refl
left_ranges entries (range ∷ later) key all none =
    ap₂ option_or (left_ranges entries later key all.1 none)
    (ap (λ (t : Bool). left_where (is_covered range key) t) (other_first (bytes_eq range.lo key) refl) ∙ left_none (is_covered range key))
    ∙ either (is_covered range key) (covers later key)
  where
    other_first : (t : Bool) → bytes_eq range.lo key ≡ t → t ≡ false
    other_first false e = refl
    other_first true e = absurd (all.0 (subst (λ (k : Bytes). lookup entries k ≡ None) (sym ((bytes_eq-Decides range.lo key).0 e)) none))

    either : (w c : Bool) → option_or (hides c) (hides w) ≡ hides (w || c)
    either true true = refl
    either true false = refl
    either false true = refl
    either false false = refl

-- where the source has an entry of the key or none
at_key : (found : Option (Option Bytes)) (c : Bool) (ranges : Option (Option (Option Bytes))) (older : Option (Option Bytes)) → (found ≡ None → ranges ≡ hides c)
    → flat_or (option_or (own found) ranges) older ≡ option_or found (cond c None older)
at_key (Some value) c ranges older h = refl
at_key None c ranges older h = ap (λ (o : Option (Option (Option Bytes))). flat_or o older) (h refl)
    ∙ elim c as (λ t. flat_or (hides t) older ≡ cond t None older) [ true ↦ refl | false ↦ refl ]

pub merge_shows : MergeShows
merge_shows start s key is =
    left_after start (changes_in s) key
    ∙ ap (λ (o : Option (Option (Option Bytes))). flat_or o (lookup start.entries key))
    (left_both (map Clears s.ranges) (map Sets s.entries) key ∙ ap (λ (o : Option (Option (Option Bytes))). option_or o (last_left (map Clears s.ranges) key)) (left_entries s.entries key is.rises))
    ∙ at_key (lookup s.entries key) (covers s.ranges key) (last_left (map Clears s.ranges) key) (lookup start.entries key) (left_ranges s.entries s.ranges key is.begin)

-- ---- rising keys

above_without : (low : Bytes) (entries : List Entry) (range : DeletedRange) → AllByRecursion (ComesBehind low) entries → AllByRecursion (ComesBehind low) (entries_outside entries range)
above_without low [] range above = tt
above_without low (entry ∷ more) range above = elim (is_covered range entry.key) as (λ t. AllByRecursion (ComesBehind low) (cond (not t) (entry ∷ entries_outside more range) (entries_outside more range))) [
  | true ↦ above_without low more range above.1
  | false ↦ (above.0, above_without low more range above.1)
]

pub rises_without : (entries : List Entry) (range : DeletedRange) → KeysRise entries → KeysRise (entries_outside entries range)
rises_without [] range rises = tt
rises_without (entry ∷ more) range rises = elim (is_covered range entry.key) as (λ t. KeysRise (cond (not t) (entry ∷ entries_outside more range) (entries_outside more range))) [
  | true ↦ rises_without more range rises.1
  | false ↦ (above_without entry.key more range rises.0, rises_without more range rises.1)
]

pub merge_rises : MergeRises
merge_rises start [] rises = rises
merge_rises start (Sets entry ∷ later) rises = merge_rises (with_change start (Sets entry)) later (rises_with start.entries entry rises)
merge_rises start (Clears range ∷ later) rises = merge_rises (with_change start (Clears range)) later
    (elim (is_before range.lo range.hi) as (λ t. KeysRise (cond t (with_cleared start range) start).entries) [
      | true ↦ rises_with (entries_outside start.entries range) (del_entry range.lo) (rises_without start.entries range rises)
      | false ↦ rises
    ])
