-- The pairs of rows whose keys rise.
use Rattle.std.proofs.Common.{◌≡◌, ◌∙◌, Bool, true, false, cond, not, ◌&&◌, List, [], ◌∷◌, refl, sym, ap, subst, arith}
use Rattle.std.specs.Prelude.{Option, Some, None, bytes_eq}
use Rattle.std.specs.List.{AllByRecursion}
use Rattle.std.specs.Ordering.{is_lt}
use Rattle.std.specs.Cmp.Lexicographic.{nat_list_cmp_total}
use Rattle.std.proofs.lemmas.Bool.{false≢true}
use Rattle.std.proofs.lemmas.Slice.Eq.{bytes_eq-Decides}
use Rattle.std.specs.declared.cmp.Ordering.TheVariants.{Less}
use Rattle.entry_model.specs.Entries.{Entry, live}
use Rattle.entry_model.specs.Newest.{ComesBehind, KeysRise, entries_from, lookup}
use Rattle.entry_model.proofs.Newest.{above_lower, none_above}
use Rattle.map_model.specs.Slices.{between, count, is_before, is_between, is_up_to}
use Rattle.map_model.specs.SortedMap.{Bytes, Map, Rises, byte_order, get}
use Rattle.map_model.proofs.Between.{before_less, outside, slice_rises, whole, within}
use Rattle.map_model.proofs.Maps.{by_order, equal_keys, less_of_greater}
use Rattle.state_model.proofs.SameMaps.{one_map}
use Rattle.store_core.proofs.Countings.{from_rises}
use Rattle.store_core.specs.Scans.{pairs_up_to, before_pairs}

same_bytes : (a b : Bytes) → bytes_eq a b ≡ true → a ≡ b
same_bytes a b e = (bytes_eq-Decides a b).0 e

-- ---- keys up to a bound

-- a key that is not before another one, and one that is, in this order
lower : (bound key other : Bytes) → is_before bound key ≡ false → is_before bound other ≡ true → byte_order key other ≡ Less
lower bound key other upto above = by_order (λ _. byte_order key other ≡ Less) bound key
    (λ less. absurd (false≢true (sym upto ∙ ap is_lt less)))
    (λ equal. subst (λ (k : Bytes). byte_order k other ≡ Less) (equal_keys bound key equal) (before_less bound other above))
    (λ greater. nat_list_cmp_total.trans key bound other (less_of_greater bound key greater) (before_less bound other above))

-- what is before another one is before each that is not before it
pub from_then_after : (key low high : Bytes) → is_before key low ≡ false → is_before high low ≡ true → is_before high key ≡ true
from_then_after key low high from crossed = by_order (λ _. is_before high key ≡ true) key low
    (λ less. absurd (false≢true (sym from ∙ ap is_lt less)))
    (λ equal. subst (λ (k : Bytes). is_before high k ≡ true) (sym (equal_keys key low equal)) crossed)
    (λ greater. ap is_lt (nat_list_cmp_total.trans high low key (before_less high low crossed) (less_of_greater key low greater)))

not_true : (b : Bool) → not b ≡ true → b ≡ false
not_true true e = absurd (false≢true e)
not_true false e = refl

not_false : (b : Bool) → not b ≡ false → b ≡ true
not_false true e = refl
not_false false e = absurd (false≢true (sym e))

pub lower_up_to : (high : Option Bytes) (key other : Bytes) → is_up_to high key ≡ true → is_up_to high other ≡ false → byte_order key other ≡ Less
lower_up_to None key other upto above = absurd (false≢true (sym above))
lower_up_to (Some high) key other upto above = lower high key other (not_true (is_before high key) upto) (not_false (is_before high other) above)

-- ---- what the pairs have

get_with : (key : Bytes) (value : Option Bytes) (later : Map) (other : Bytes) → bytes_eq key other ≡ false → get (before_pairs key value later) other ≡ get later other
get_with key None later other apart = refl
get_with key (Some value) later other apart = ap (λ (t : Bool). cond t (Some value) (get later other)) apart

get_here : (key : Bytes) (value : Option Bytes) (later : Map) (other : Bytes) → bytes_eq key other ≡ true → get later other ≡ None → get (before_pairs key value later) other ≡ value
get_here key None later other same none = none
get_here key (Some value) later other same none = ap (λ (t : Bool). cond t (Some value) (get later other)) same

-- of a key up to the bound the pairs have what the rows say
pub get_up_to : (high : Option Bytes) (key : Bytes) (rows : List Entry) → KeysRise rows → is_up_to high key ≡ true → get (pairs_up_to high rows) key ≡ live (lookup rows key)
get_up_to high key [] rises upto = refl
get_up_to high key (e ∷ more) rises upto = by_row (get_up_to high key more rises.1 upto) (is_up_to high e.key) refl
  where
    by_key : get (pairs_up_to high more) key ≡ live (lookup more key) → (same : Bool) → bytes_eq e.key key ≡ same → get (before_pairs e.key e.value (pairs_up_to high more)) key ≡ live (cond same (Some e.value) (lookup more key))
    by_key rest true is =
        let none = ap live (subst (λ (k : Bytes). lookup more k ≡ None) (same_bytes e.key key is) (none_above e.key more rises.0)) in
        get_here e.key e.value (pairs_up_to high more) key is (rest ∙ none)
    by_key rest false is = get_with e.key e.value (pairs_up_to high more) key is ∙ rest

    by_row : get (pairs_up_to high more) key ≡ live (lookup more key) → (here : Bool) → is_up_to high e.key ≡ here → get (pairs_up_to high (e ∷ more)) key ≡ live (lookup (e ∷ more) key)
    by_row rest true is =
        ap (λ (t : Bool). get (cond t (before_pairs e.key e.value (pairs_up_to high more)) []) key) is ∙ by_key rest (bytes_eq e.key key) refl
    by_row rest false is =
        let less = lower_up_to high key e.key upto is in
        ap (λ (t : Bool). get (cond t (before_pairs e.key e.value (pairs_up_to high more)) []) key) is
        ∙ ap live (sym (none_above key (e ∷ more) (less, above_lower key e.key more less rises.0)))

-- of one above it nothing
pub get_above : (high : Option Bytes) (key : Bytes) (rows : List Entry) → is_up_to high key ≡ false → get (pairs_up_to high rows) key ≡ None
get_above high key [] above = refl
get_above high key (e ∷ more) above = by_row (get_above high key more above) (is_up_to high e.key) refl
  where
    apart : is_up_to high e.key ≡ true → (same : Bool) → bytes_eq e.key key ≡ same → same ≡ false
    apart upto true is = absurd (false≢true (sym above ∙ subst (λ (k : Bytes). is_up_to high k ≡ true) (same_bytes e.key key is) upto))
    apart upto false is = refl

    by_row : get (pairs_up_to high more) key ≡ None → (here : Bool) → is_up_to high e.key ≡ here → get (pairs_up_to high (e ∷ more)) key ≡ None
    by_row rest true is =
        ap (λ (t : Bool). get (cond t (before_pairs e.key e.value (pairs_up_to high more)) []) key) is
        ∙ get_with e.key e.value (pairs_up_to high more) key (apart is (bytes_eq e.key key) refl) ∙ rest
    by_row rest false is = ap (λ (t : Bool). get (cond t (before_pairs e.key e.value (pairs_up_to high more)) []) key) is

-- ---- their keys rise

abbrev pub ArePairsAbove : Bytes → Map → Type 0
ArePairsAbove key pairs = AllByRecursion (λ (pair : Bytes × Bytes). byte_order key pair.0 ≡ Less) pairs

with_above : (low key : Bytes) (value : Option Bytes) (later : Map) → byte_order low key ≡ Less → ArePairsAbove low later → ArePairsAbove low (before_pairs key value later)
with_above low key None later less above = above
with_above low key (Some value) later less above = (less, above)

pub pairs_above : (high : Option Bytes) (key : Bytes) (rows : List Entry) → AllByRecursion (ComesBehind key) rows → ArePairsAbove key (pairs_up_to high rows)
pairs_above high key [] above = tt
pairs_above high key (e ∷ more) above = elim (is_up_to high e.key) as (λ t. ArePairsAbove key (cond t (before_pairs e.key e.value (pairs_up_to high more)) [])) [
  | true ↦ with_above key e.key e.value (pairs_up_to high more) above.0 (pairs_above high key more above.1)
  | false ↦ tt
]

rises_behind : (pair : Bytes × Bytes) (later : Map) → ArePairsAbove pair.0 later → Rises later → Rises (pair ∷ later)
rises_behind pair [] above rises = tt
rises_behind pair (next ∷ later) above rises = (above.0, rises)

with_rises : (key : Bytes) (value : Option Bytes) (later : Map) → ArePairsAbove key later → Rises later → Rises (before_pairs key value later)
with_rises key None later above rises = rises
with_rises key (Some value) later above rises = rises_behind (key, value) later above rises

pub pairs_rise : (high : Option Bytes) (rows : List Entry) → KeysRise rows → Rises (pairs_up_to high rows)
pairs_rise high [] rises = tt
pairs_rise high (e ∷ more) rises = elim (is_up_to high e.key) as (λ t. Rises (cond t (before_pairs e.key e.value (pairs_up_to high more)) [])) [
  | true ↦ with_rises e.key e.value (pairs_up_to high more) (pairs_above high e.key more rises.0) (pairs_rise high more rises.1)
  | false ↦ tt
]

-- ---- from a bound on

pub lookup_below : (low key : Bytes) (entries : List Entry) → is_before key low ≡ true → lookup (entries_from entries low) key ≡ None
lookup_below low key [] before = refl
lookup_below low key (e ∷ more) before = by_entry (lookup_below low key more before) (is_before e.key low) refl
  where
    apart : is_before e.key low ≡ false → (same : Bool) → bytes_eq e.key key ≡ same → same ≡ false
    apart from true is = absurd (false≢true (sym from ∙ subst (λ (k : Bytes). is_before k low ≡ true) (sym (same_bytes e.key key is)) before))
    apart from false is = refl

    by_entry : lookup (entries_from more low) key ≡ None → (below : Bool) → is_before e.key low ≡ below → lookup (entries_from (e ∷ more) low) key ≡ None
    by_entry rest true is = ap (λ (t : Bool). lookup (cond (not t) (e ∷ entries_from more low) (entries_from more low)) key) is ∙ rest
    by_entry rest false is =
        ap (λ (t : Bool). lookup (cond (not t) (e ∷ entries_from more low) (entries_from more low)) key) is
        ∙ ap (λ (t : Bool). cond t (Some e.value) (lookup (entries_from more low) key)) (apart is (bytes_eq e.key key) refl) ∙ rest

pub lookup_from : (low key : Bytes) (entries : List Entry) → is_before key low ≡ false → lookup (entries_from entries low) key ≡ lookup entries key
lookup_from low key [] from = refl
lookup_from low key (e ∷ more) from = by_entry (lookup_from low key more from) (is_before e.key low) refl
  where
    apart : is_before e.key low ≡ true → (same : Bool) → bytes_eq e.key key ≡ same → same ≡ false
    apart below true is = absurd (false≢true (sym from ∙ subst (λ (k : Bytes). is_before k low ≡ true) (same_bytes e.key key is) below))
    apart below false is = refl

    by_entry : lookup (entries_from more low) key ≡ lookup more key → (below : Bool) → is_before e.key low ≡ below → lookup (entries_from (e ∷ more) low) key ≡ lookup (e ∷ more) key
    by_entry rest true is =
        ap (λ (t : Bool). lookup (cond (not t) (e ∷ entries_from more low) (entries_from more low)) key) is ∙ rest
        ∙ sym (ap (λ (t : Bool). cond t (Some e.value) (lookup more key)) (apart is (bytes_eq e.key key) refl))
    by_entry rest false is =
        ap (λ (t : Bool). lookup (cond (not t) (e ∷ entries_from more low) (entries_from more low)) key) is
        ∙ ap (λ (o : Option (Option Bytes)). cond (bytes_eq e.key key) (Some e.value) o) rest

-- ---- the pairs of rows, from a bound on and up to the other, are those of a map which has there what the rows say

between_rises : (m : Map) (low : Bytes) (high : Option Bytes) → Rises m → Rises (between m low high)
between_rises m low high rises = subst Rises (whole m low high (count m low high) (omega arith)) (slice_rises m low high (count m low high) rises)

module _ (rows : List Entry) (m : Map) (low : Bytes) (high : Option Bytes) (rows_rise : KeysRise rows) (rises : Rises m)
    (says : (key : Bytes) → is_between low high key ≡ true → live (lookup rows key) ≡ get m key) where
  abbrev pairs : Map
  pairs = pairs_up_to high (entries_from rows low)

  left_rise : KeysRise (entries_from rows low)
  left_rise = from_rises low rows rows_rise

  below_none : (key : Bytes) (upto : Bool) → is_before key low ≡ true → is_up_to high key ≡ upto → get pairs key ≡ None
  below_none key true is up = get_up_to high key (entries_from rows low) left_rise up ∙ ap live (lookup_below low key rows is)
  below_none key false is up = get_above high key (entries_from rows low) up

  by_bounds : (key : Bytes) (below upto : Bool) → is_before key low ≡ below → is_up_to high key ≡ upto → get pairs key ≡ get (between m low high) key
  by_bounds key true upto is up =
      let away : is_between low high key ≡ false = ap (λ (t : Bool). not t && is_up_to high key) is in
      below_none key upto is up ∙ sym (outside m low high key away)
  by_bounds key false true is up =
      let inside : is_between low high key ≡ true = ap (λ (t : Bool). not t && is_up_to high key) is ∙ up in
      get_up_to high key (entries_from rows low) left_rise up ∙ ap live (lookup_from low key rows is) ∙ says key inside ∙ sym (within m low high key inside)
  by_bounds key false false is up =
      let away : is_between low high key ≡ false = ap (λ (t : Bool). not t && is_up_to high key) is ∙ up in
      get_above high key (entries_from rows low) up ∙ sym (outside m low high key away)

  pub pairs_between : pairs ≡ between m low high
  pairs_between = one_map pairs (between m low high) (pairs_rise high (entries_from rows low) left_rise) (between_rises m low high rises)
      (λ key. by_bounds key (is_before key low) (is_up_to high key) refl refl)
