-- The first of the entries at hand with the least key.
use Rattle.std.proofs.Common.{◌≡◌, ◌+◌, ◌-◌, ◌<◌, ◌≤◌, ℕ, zero, suc, List, [], ◌∷◌, length, drop, map, slice_index_or, refl, sym, ap, ◌∙◌, subst, Bool, true, false, cond, arith}
use Rattle.std.specs.Prelude.{Option, Some, None, MatchOption, slice_get}
use Rattle.std.specs.Option.{option_map_or}
use Rattle.std.specs.List.{AllByRecursion}
use Rattle.std.proofs.lemmas.Bool.{false≢true}
use Rattle.entry_model.specs.Entries.{Entry}
use Rattle.key_base.specs.ByteOrder.{IsBefore, is_before}
use Rattle.map_model.specs.SortedMap.{Bytes}
use Rattle.merge_rows.specs.Choosing.{IsHeadAbove, IsHeadFrom, IsLeastAt, IsNone, head_in, least_from, nearer, with_head}
use Rattle.merge_rows.specs.Merges.{TableWalk}
use Rattle.merge_rows.proofs.Keys.{at_or_after, before_of, before_then, is_before_of}

-- a head that is not before a key is not before what that key is not before
no_before : (low key other : Bytes) → is_before key low ≡ false → is_before other key ≡ false → is_before other low ≡ false
no_before low key other not_so from = elim (is_before other low) as (λ t. is_before other low ≡ t → t ≡ false) [
  | false ↦ λ _. refl
  | true ↦ λ e. absurd (at_or_after ⊥ other key from
      (λ same. false≢true (sym not_so ∙ ap (λ (k : Bytes). is_before k low) (sym same) ∙ e))
      (λ after. false≢true (sym not_so ∙ is_before_of key low (before_then key other low after (before_of other low e)))))
] refl

not_before_above : (low key other : Bytes) → is_before key low ≡ false → IsBefore key other → is_before other low ≡ false
not_before_above low key other not_so less = elim (is_before other low) as (λ t. is_before other low ≡ t → t ≡ false) [
  | false ↦ λ _. refl
  | true ↦ λ e. absurd (false≢true (sym not_so ∙ is_before_of key low (before_then key other low less (before_of other low e))))
] refl

above_is_from : (low key : Bytes) (head : Option Entry) → is_before key low ≡ false → IsHeadAbove key head → IsHeadFrom low head
above_is_from low key None not_so above = tt
above_is_from low key (Some e) not_so above = not_before_above low key e.key not_so above

from_is_from : (low key : Bytes) (head : Option Entry) → is_before key low ≡ false → IsHeadFrom key head → IsHeadFrom low head
from_is_from low key None not_so from = tt
from_is_from low key (Some e) not_so from = no_before low key e.key not_so from

all_from : (low key : Bytes) (heads : List (Option Entry)) → is_before key low ≡ false → AllByRecursion (IsHeadFrom key) heads → AllByRecursion (IsHeadFrom low) heads
all_from low key [] not_so from = tt
all_from low key (head ∷ older) not_so from = (from_is_from low key head not_so from.0, all_from low key older not_so from.1)

-- none of the others is before the key, where the least is not
pub least_from_low : (low : Bytes) (heads : List (Option Entry)) (place : ℕ) (e : Entry) → is_before e.key low ≡ false → IsLeastAt heads place e → AllByRecursion (IsHeadFrom low) heads
least_from_low low [] place e not_so least = absurd least
least_from_low low (head ∷ older) zero e not_so least = (subst (IsHeadFrom low) (sym least.0) not_so, all_from low e.key older not_so least.1)
least_from_low low (head ∷ older) (suc place) e not_so least = (above_is_from low e.key head not_so least.0, least_from_low low older place e not_so least.1)

pub none_from : (low : Bytes) (heads : List (Option Entry)) → AllByRecursion IsNone heads → AllByRecursion (IsHeadFrom low) heads
none_from low [] none = tt
none_from low (head ∷ older) none = (subst (IsHeadFrom low) (sym none.0) tt, none_from low older none.1)

-- what is found among heads whose places begin at a number
pub record IsLeast (n : ℕ) (heads : List (Option Entry)) (found : ℕ × Bytes) : Type 0 where
  pub place : ℕ
  pub entry : Entry
  pub place_is : found.0 ≡ n + place
  pub key_is : entry.key ≡ found.1
  pub least : IsLeastAt heads place entry

abbrev pub Finds : ℕ → List (Option Entry) → Option (ℕ × Bytes) → Type 0
Finds n heads found = MatchOption found (AllByRecursion IsNone heads) (IsLeast n heads)

behind_none : (n : ℕ) (older : List (Option Entry)) (found : Option (ℕ × Bytes)) → Finds (suc n) older found → Finds n (None ∷ older) found
behind_none n older None none = (refl, none)
behind_none n older (Some other) is = record {
  place = suc is.place;
  entry = is.entry;
  place_is = is.place_is ∙ omega arith;
  key_is = is.key_is;
  least = (tt, is.least);
}

of_two : (n : ℕ) (h : Entry) (older : List (Option Entry)) (other : ℕ × Bytes) (test : Bool) → is_before other.1 h.key ≡ test → IsLeast (suc n) older other
    → Finds n (Some h ∷ older) (cond test (Some other) (Some (n, h.key)))
of_two n h older other true before is = record {
  place = suc is.place;
  entry = is.entry;
  place_is = is.place_is ∙ omega arith;
  key_is = is.key_is;
  least = (before_of is.entry.key h.key (ap (λ (k : Bytes). is_before k h.key) is.key_is ∙ before), is.least);
}
of_two n h older other false not_so is = record {
  place = 0;
  entry = h;
  place_is = omega arith;
  key_is = refl;
  least = (refl, least_from_low h.key older is.place is.entry (ap (λ (k : Bytes). is_before k h.key) is.key_is ∙ not_so) is.least);
}

behind_head : (n : ℕ) (h : Entry) (older : List (Option Entry)) (found : Option (ℕ × Bytes)) → Finds (suc n) older found → Finds n (Some h ∷ older) (nearer n h.key found)
behind_head n h older None none = record {
  place = 0;
  entry = h;
  place_is = omega arith;
  key_is = refl;
  least = (refl, none_from h.key older none);
}
behind_head n h older (Some other) is = of_two n h older other (is_before other.1 h.key) refl is

pub finds : (n : ℕ) (heads : List (Option Entry)) → Finds n heads (least_from n heads)
finds n [] = tt
finds n (None ∷ older) = behind_none n older (least_from (suc n) older) (finds (suc n) older)
finds n (Some h ∷ older) = behind_head n h older (least_from (suc n) older) (finds (suc n) older)

-- ---- as it is found

abbrev pub nows : List TableWalk → List (Option Entry)
nows walks = map (λ (w : TableWalk). w.walk.now) walks

drop_nows : (walks : List TableWalk) (n : ℕ) → n < length walks → drop n (nows walks) ≡ head_in walks n ∷ drop (suc n) (nows walks)
drop_nows [] n lt = absurd (omega (arith, lt))
drop_nows (w ∷ more) zero lt = refl
drop_nows (w ∷ more) (suc n) lt = drop_nows more n (omega (arith, lt))

-- a walk before those that were seen
pub least_step : (walks : List TableWalk) (i : ℕ) → 0 < i → i ≤ length walks
    → with_head (i - 1) (head_in walks (i - 1)) (least_from i (drop i (nows walks))) ≡ least_from (i - 1) (drop (i - 1) (nows walks))
least_step walks i some le =
    let same : suc (i - 1) ≡ i = omega (arith, some) in
    sym (ap (λ (k : ℕ). with_head (i - 1) (head_in walks (i - 1)) (least_from k (drop k (nows walks)))) same)
    ∙ sym (ap (least_from (i - 1)) (drop_nows walks (i - 1) (omega (arith, some, le))))

-- the entry at hand of a walk that was looked up
pub head_here : (walks : List TableWalk) (at : ℕ) (w other : TableWalk) → at < length walks → w ≡ slice_index_or walks at other → w.walk.now ≡ head_in walks at
head_here [] at w other lt is = absurd (omega (arith, lt))
head_here (v ∷ more) zero w other lt is = ap (λ (x : TableWalk). x.walk.now) is
head_here (v ∷ more) (suc at) w other lt is = head_here more at w other (omega (arith, lt)) is

-- the least of the walks
pub record IsFirst (walks : List TableWalk) (at : ℕ) (key : Bytes) : Type 0 where
  pub entry : Entry
  pub key_is : entry.key ≡ key
  pub least : IsLeastAt (nows walks) at entry

found_first : (walks : List TableWalk) (at : ℕ) (key : Bytes) → IsLeast 0 (nows walks) (at, key) → IsFirst walks at key
found_first walks at key is = record {
  entry = is.entry;
  key_is = is.key_is;
  least = subst (λ (n : ℕ). IsLeastAt (nows walks) n is.entry) (sym (is.place_is ∙ omega arith)) is.least;
}

pub first_found : (walks : List TableWalk) (at : ℕ) (key : Bytes) → Some (at, key) ≡ least_from 0 (nows walks) → IsFirst walks at key
first_found walks at key is = found_first walks at key (subst (Finds 0 (nows walks)) (sym is) (finds 0 (nows walks)))

pub none_found : (walks : List TableWalk) → None ≡ least_from 0 (nows walks) → AllByRecursion IsNone (nows walks)
none_found walks is = subst (Finds 0 (nows walks)) (sym is) (finds 0 (nows walks))

pub least_there : (walks : List TableWalk) (at : ℕ) (e : Entry) → IsLeastAt (nows walks) at e → (at < length walks) × (option_map_or (λ (w : TableWalk). w.walk.now) (slice_get walks at) None ≡ Some e)
least_there [] at e least = absurd least
least_there (w ∷ more) zero e least = (omega arith, least.0)
least_there (w ∷ more) (suc at) e least = let rest = least_there more at e least.1 in (omega (arith, rest.0), rest.1)

-- a table's entry is the first with the least key, where that of the memory is above it
pub first_table : (memory : Option Entry) (walks : List TableWalk) (at : ℕ) (key : Bytes) → Some (at, key) ≡ least_from 0 (nows walks) → IsHeadAbove key memory
    → (e : Entry) × (head_in walks at ≡ Some e) × (IsHeadAbove e.key memory × IsLeastAt (nows walks) at e)
first_table memory walks at key is above =
    let first = first_found walks at key is in
    (first.entry, (least_there walks at first.entry first.least).1, (subst (λ (k : Bytes). IsHeadAbove k memory) (sym first.key_is) above, first.least))

-- that of the memory is, where no table's is before it
pub first_memory : (h : Entry) (head : Option Entry) (walks : List TableWalk) → Some h ≡ head → AllByRecursion (IsHeadFrom h.key) (nows walks)
    → (e : Entry) × (head ≡ Some e) × ((head ≡ Some e) × AllByRecursion (IsHeadFrom e.key) (nows walks))
first_memory h head walks is from = (h, sym is, (sym is, from))

pub walks_from_key : (low : Bytes) (walks : List TableWalk) (at : ℕ) (key : Bytes) → Some (at, key) ≡ least_from 0 (nows walks) → is_before key low ≡ false → AllByRecursion (IsHeadFrom low) (nows walks)
walks_from_key low walks at key is not_so =
    let first = first_found walks at key is in
    least_from_low low (nows walks) at first.entry (ap (λ (k : Bytes). is_before k low) first.key_is ∙ not_so) first.least
