-- Where a key's place is: the entries before it are below the key.
use Rattle.std.proofs.Common.{◌≡◌, ℕ, zero, suc, ◌+◌, ◌-◌, ◌<◌, ◌≤◌, List, [], ◌∷◌, ◌++◌, length, take, drop, get_or, set, refl, sym, ap, ◌∙◌, subst, Bool, true, cond, not, arith, take-append-drop, get_or-take, get_or-drop, length-take-le, length-drop, inl, inr}
use Rattle.std.specs.Prelude.{Some, None, bytes_eq, insert}
use Rattle.std.specs.List.{AllByRecursion, HoldsAt}
use Rattle.std.specs.List.Sorted.{IsNonDecreasingBy}
use Rattle.std.proofs.lemmas.Bool.{cases_lt}
use Rattle.std.proofs.lemmas.List.{set_split, drop_more}
use Rattle.std.proofs.lemmas.List.Elements.{recursion_from_All}
use Rattle.std.specs.Cmp.Lexicographic.{nat_list_cmp_total}
use Rattle.std.specs.Ordering.{is_lt, ordering_index}
use Rattle.std.specs.declared.cmp.Ordering.{Ordering}
use Rattle.std.specs.declared.cmp.Ordering.TheVariants.{Less, Equal, Greater}
use Rattle.map_model.specs.SortedMap.{Bytes, byte_order, in_place}
use Rattle.entry_model.specs.Entries.{Entry}
use Rattle.map_model.proofs.Maps.{same_key, order_same, equal_keys}
use Rattle.mem_table.specs.Table.{KeyStandsAt, BelongsAt}
use Rattle.entry_model.specs.Newest.{ComesBefore, ComesBehind, KeysRise, with_entry, lookup, entries_from}
use Rattle.entry_model.proofs.Newest.{greater_of_less, below_apart, none_above}

-- ---- the orders of rising keys to one key rise

pub above_at : (low : Bytes) (entries : List Entry) (j : ℕ) (d : Entry) → AllByRecursion (ComesBehind low) entries → j < length entries → ComesBehind low (get_or entries j d)
above_at low [] j d above lt = absurd (omega arith)
above_at low (entry ∷ more) zero d above lt = above.0
above_at low (entry ∷ more) (suc j) d above lt = above_at low more j d above.1 (omega arith)

pub rises_between : (entries : List Entry) (i j : ℕ) (d : Entry) → KeysRise entries → i < j → j < length entries → byte_order (get_or entries i d).key (get_or entries j d).key ≡ Less
rises_between [] i j d rises lt within = absurd (omega arith)
rises_between (entry ∷ more) i zero d rises lt within = absurd (omega arith)
rises_between (entry ∷ more) zero (suc j) d rises lt within = above_at entry.key more j d rises.0 (omega arith)
rises_between (entry ∷ more) (suc i) (suc j) d rises lt within = rises_between more i j d rises.1 (omega arith) (omega arith)

index_le : (o p : Ordering) → (p ≡ Less → o ≡ Less) → (p ≡ Equal → o ≡ Less) → ordering_index o ≤ ordering_index p
index_le o Less less equal = let e = less refl in rw e (omega arith)
index_le o Equal less equal = let e = equal refl in rw e (omega arith)
index_le Less Greater less equal = omega arith
index_le Equal Greater less equal = omega arith
index_le Greater Greater less equal = omega arith

-- the orders to one key of what stands for entries with rising keys
pub orders_rise : {X : Type 0} (e : X → Entry) (key : Bytes) (xs : List X) → ((i j : ℕ) (d : X) → i < j → j < length xs → byte_order (e (get_or xs i d)).key (e (get_or xs j d)).key ≡ Less)
    → IsNonDecreasingBy (λ x. ordering_index (byte_order (e x).key key)) xs
orders_rise e key xs rise i j d le within = elim (cases_lt i j) [
  | inl lt ↦ let between = rise i j d lt within in
      index_le (byte_order (e (get_or xs i d)).key key) (byte_order (e (get_or xs j d)).key key)
      (λ less. nat_list_cmp_total.trans (e (get_or xs i d)).key (e (get_or xs j d)).key key between less)
      (λ equal. subst (λ (k : Bytes). byte_order (e (get_or xs i d)).key k ≡ Less) (equal_keys (e (get_or xs j d)).key key equal) between)
  | inr ge ↦ let same : i ≡ j = omega arith in rw same (omega arith)
]

-- ---- what a search found

pub stands : (key : Bytes) (entries : List Entry) (at : ℕ) → KeysRise entries → at < length entries → HoldsAt (λ e. byte_order e.key key ≡ Equal) entries at → KeyStandsAt at key entries
stands key entries at rises within equal = record {
  within = within;
  here = λ d. equal_keys (get_or entries at d).key key (equal d);
  before = recursion_from_All (ComesBefore key) (take at entries) (λ k d lt.
      let k_at : k < at = omega (arith, length-take-le at entries (omega arith)) in
      subst (λ (e : Entry). ComesBefore key e) (sym (get_or-take at entries k d k_at))
      (subst (λ (other : Bytes). byte_order (get_or entries k d).key other ≡ Less) (equal_keys (get_or entries at d).key key (equal d)) (rises_between entries k at d rises k_at within)));
}

-- between two neighbours that are below the key and above it
module _ (key : Bytes) (entries : List Entry) (at : ℕ) (rises : KeysRise entries) where
  all_below : ((d : Entry) → byte_order (get_or entries (at - 1) d).key key ≡ Less) → (k : ℕ) (d : Entry) → k < at → at ≤ length entries → byte_order (get_or entries k d).key key ≡ Less
  all_below last k d lt within = elim (cases_lt k (at - 1)) [
    | inl less ↦ nat_list_cmp_total.trans (get_or entries k d).key (get_or entries (at - 1) d).key key (rises_between entries k (at - 1) d rises less (omega arith)) (last d)
    | inr ge ↦ let same : at - 1 ≡ k = omega arith in subst (λ (n : ℕ). byte_order (get_or entries n d).key key ≡ Less) same (last d)
  ]

  all_above : ((d : Entry) → byte_order key (get_or entries at d).key ≡ Less) → (k : ℕ) (d : Entry) → at ≤ k → k < length entries → byte_order key (get_or entries k d).key ≡ Less
  all_above first k d le within = elim (cases_lt at k) [
    | inl less ↦ nat_list_cmp_total.trans key (get_or entries at d).key (get_or entries k d).key (first d) (rises_between entries at k d rises less within)
    | inr ge ↦ let same : at ≡ k = omega arith in subst (λ (n : ℕ). byte_order key (get_or entries n d).key ≡ Less) same (first d)
  ]

  pub belongs : at ≤ length entries → (0 < at → (d : Entry) → byte_order (get_or entries (at - 1) d).key key ≡ Less) → (at < length entries → (d : Entry) → byte_order key (get_or entries at d).key ≡ Less)
      → BelongsAt at key entries
  belongs within last first = record {
    within = within;
    before = recursion_from_All (ComesBefore key) (take at entries) (λ k d lt.
        let k_at : k < at = omega (arith, length-take-le at entries within) in
        subst (λ (e : Entry). ComesBefore key e) (sym (get_or-take at entries k d k_at)) (all_below (last (omega arith)) k d k_at within));
    behind = recursion_from_All (ComesBehind key) (drop at entries) (λ k d lt.
        let inside : at + k < length entries = omega (arith, length-drop at entries) in
        subst (λ (e : Entry). ComesBehind key e) (sym (get_or-drop at entries k d)) (all_above (first (omega arith)) (at + k) d (omega arith) inside));
  }

-- ---- what stands before the place changes nothing

pub with_behind : (front back : List Entry) (new : Entry) → AllByRecursion (ComesBefore new.key) front → with_entry (front ++ back) new ≡ front ++ with_entry back new
with_behind [] back new below = refl
with_behind (entry ∷ front) back new below =
    ap (λ (o : Ordering). in_place o new entry (front ++ back) (with_entry (front ++ back) new)) (greater_of_less entry.key new.key below.0)
    ∙ ap (λ (es : List Entry). entry ∷ es) (with_behind front back new below.1)

lookup_behind : (front back : List Entry) (key : Bytes) → AllByRecursion (ComesBefore key) front → lookup (front ++ back) key ≡ lookup back key
lookup_behind [] back key below = refl
lookup_behind (entry ∷ front) back key below =
    ap (λ (t : Bool). cond t (Some entry.value) (lookup (front ++ back) key)) (below_apart entry.key key below.0) ∙ lookup_behind front back key below.1

from_behind : (front back : List Entry) (low : Bytes) → AllByRecursion (ComesBefore low) front → entries_from (front ++ back) low ≡ entries_from back low
from_behind [] back low below = refl
from_behind (entry ∷ front) back low below =
    ap (λ (o : Ordering). cond (not (is_lt o)) (entry ∷ entries_from (front ++ back) low) (entries_from (front ++ back) low)) below.0 ∙ from_behind front back low below.1

from_above : (back : List Entry) (low : Bytes) → AllByRecursion (ComesBehind low) back → entries_from back low ≡ back
from_above [] low above = refl
from_above (entry ∷ back) low above =
    ap (λ (o : Ordering). cond (not (is_lt o)) (entry ∷ entries_from back low) (entries_from back low)) (greater_of_less low entry.key above.0)
    ∙ ap (λ (es : List Entry). entry ∷ es) (from_above back low above.1)

with_above : (back : List Entry) (new : Entry) → AllByRecursion (ComesBehind new.key) back → with_entry back new ≡ new ∷ back
with_above [] new above = refl
with_above (entry ∷ more) new above = ap (λ (o : Ordering). in_place o new entry more (with_entry more new)) above.0

-- ---- at the place

module _ (entries : List Entry) (key : Bytes) (at : ℕ) (s : KeyStandsAt at key entries) where
  -- parted at the entry of the key
  parted : (d : Entry) → entries ≡ take at entries ++ get_or entries at d ∷ drop (at + 1) entries
  parted d = sym (take-append-drop at entries) ∙ ap (λ (es : List Entry). take at entries ++ es) (drop_more entries at d s.within)

  pub lookup_at : (d : Entry) → lookup entries key ≡ Some (get_or entries at d).value
  lookup_at d =
      ap (λ (es : List Entry). lookup es key) (parted d)
      ∙ lookup_behind (take at entries) (get_or entries at d ∷ drop (at + 1) entries) key s.before
      ∙ ap (λ (t : Bool). cond t (Some (get_or entries at d).value) (lookup (drop (at + 1) entries) key)) (subst (λ (k : Bytes). bytes_eq (get_or entries at d).key k ≡ true) (s.here d) (same_key (get_or entries at d).key))

  from_at : (d : Entry) → KeysRise entries → entries_from entries key ≡ drop at entries
  from_at d rises =
      ap (λ (es : List Entry). entries_from es key) (parted d)
      ∙ from_behind (take at entries) (get_or entries at d ∷ drop (at + 1) entries) key s.before
      ∙ ap (λ (o : Ordering). cond (not (is_lt o)) (get_or entries at d ∷ entries_from (drop (at + 1) entries) key) (entries_from (drop (at + 1) entries) key)) (order_same (get_or entries at d).key key (s.here d))
      ∙ ap (λ (es : List Entry). get_or entries at d ∷ es) (from_above (drop (at + 1) entries) key (above_next entries at rises s.within (s.here d)))
      ∙ sym (drop_more entries at d s.within)
    where
      above_next : (entries : List Entry) (at : ℕ) → KeysRise entries → at < length entries → (get_or entries at d).key ≡ key → AllByRecursion (ComesBehind key) (drop (at + 1) entries)
      above_next [] at rises lt is = absurd (omega arith)
      above_next (entry ∷ more) zero rises lt is = subst (λ (k : Bytes). AllByRecursion (ComesBehind k) more) is rises.0
      above_next (entry ∷ more) (suc at) rises lt is = let one : suc (at + 1) ≡ suc at + 1 = omega arith in subst (λ (k : ℕ). AllByRecursion (ComesBehind key) (drop k (entry ∷ more))) one (above_next more at rises.1 (omega arith) is)

module _ (entries : List Entry) (key : Bytes) (at : ℕ) (b : BelongsAt at key entries) where
  pub lookup_none : lookup entries key ≡ None
  lookup_none =
      ap (λ (es : List Entry). lookup es key) (sym (take-append-drop at entries))
      ∙ lookup_behind (take at entries) (drop at entries) key b.before
      ∙ none_above key (drop at entries) b.behind

  pub from_gap : entries_from entries key ≡ drop at entries
  from_gap =
      ap (λ (es : List Entry). entries_from es key) (sym (take-append-drop at entries))
      ∙ from_behind (take at entries) (drop at entries) key b.before
      ∙ from_above (drop at entries) key b.behind

pub from_found : (entries : List Entry) (key : Bytes) (at : ℕ) → KeyStandsAt at key entries → KeysRise entries → entries_from entries key ≡ drop at entries
from_found [] key at s rises = absurd (omega (arith, s.within))
from_found (entry ∷ more) key at s rises = from_at (entry ∷ more) key at s entry rises

pub set_at : (entries : List Entry) (new : Entry) (at : ℕ) → KeyStandsAt at new.key entries → set entries at new ≡ with_entry entries new
set_at entries new at s =
    let old = get_or entries at new in
    let next : suc at ≡ at + 1 = omega arith in
    let here : with_entry (old ∷ drop (at + 1) entries) new ≡ new ∷ drop (at + 1) entries =
    ap (λ (o : Ordering). in_place o new old (drop (at + 1) entries) (with_entry (drop (at + 1) entries) new)) (order_same new.key old.key (sym (s.here new))) in
    set_split entries at new s.within
    ∙ ap (λ (k : ℕ). take at entries ++ new ∷ drop k entries) next
    ∙ ap (λ (es : List Entry). take at entries ++ es) (sym here)
    ∙ sym (with_behind (take at entries) (old ∷ drop (at + 1) entries) new s.before)
    ∙ ap (λ (es : List Entry). with_entry es new) (sym (parted entries new.key at s new))

pub insert_at : (entries : List Entry) (new : Entry) (at : ℕ) → BelongsAt at new.key entries → insert entries at new ≡ with_entry entries new
insert_at entries new at b =
    ap (λ (es : List Entry). take at entries ++ es) (sym (with_above (drop at entries) new b.behind))
    ∙ sym (with_behind (take at entries) (drop at entries) new b.before)
    ∙ ap (λ (es : List Entry). with_entry es new) (take-append-drop at entries)
