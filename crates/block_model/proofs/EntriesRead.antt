-- Entries with shared prefixes, one after the other, are read as they were spelled, and so is their list.
use Rattle.std.proofs.Common.{◌≡◌, ◌+◌, ◌≤◌, ◌<◌, ◌/◌, ◌%◌, ◌*◌, ℕ, zero, suc, true, false, cond, List, [], ◌∷◌, ◌++◌, length, drop, refl, sym, ap, ◌∙◌, arith, append_assoc, length-append}
use Rattle.std.specs.Prelude.{None, ◌==◌, ◌&&◌, not, flat_map}
use Rattle.std.specs.List.{AllByRecursion}
use Rattle.std.proofs.lemmas.Bool.{eq-eqb, eqb-true}
use Rattle.std.proofs.lemmas.List.{drop-drop}
use Rattle.byteorder.specs.Endian.{little_bytes, little_number}
use Rattle.byte_fields.proofs.NumberLemmas.{number_again}
use Rattle.key_base.specs.ByteOrder.{is_before}
use Rattle.map_model.specs.SortedMap.{Bytes}
use Rattle.entry_model.specs.Entries.{Entry, IsEntry, entry_of, keys_of}
use Rattle.block_model.specs.BlockReading.{entries_fault_by, is_listed_elsewhere}
use Rattle.block_model.specs.Bodies.{entries_bytes, entry_bytes, listed_places}
use Rattle.block_model.specs.Formats.{Prefixed, begins_anew, entries_by, listed_in, places_length, wants_shared, width_by}
use Rattle.block_model.specs.Order.{Follow}
use Rattle.block_model.proofs.EntryBodies.{after_it, key_is, entry_kept, value_is, wants_few, wants_whole, width_is}
use Rattle.block_model.proofs.Refusals.{none_of, not_true, passed}

pub positive : (n : ℕ) → (n == 0) ≡ false → 0 < n
positive zero e = absurd cc
positive (suc n) e = omega arith

-- ---- how many are listed

pub list_long : (i place : ℕ) (before : Bytes) (es : List Entry)
    → length (flat_map (little_bytes 2) (listed_places i place before es)) + 2 * ((i + 15) / 16) ≡ 2 * ((i + length es + 15) / 16)
unfolding listed_places
list_long i place before [] = omega arith
list_long i place before (e ∷ es) =
    let next = place + length (entry_bytes (wants_shared i before e.key) e) in
    let others = listed_places (suc i) next e.key es in
    let later = list_long (suc i) next e.key es in
    elim (begins_anew i) as (λ t. begins_anew i ≡ t → length (flat_map (little_bytes 2) (cond t (place ∷ others) others)) + 2 * ((i + 15) / 16) ≡ 2 * ((i + length (e ∷ es) + 15) / 16)) [
      | true ↦ λ is. omega (arith, later, eqb-true (i % 16) 0 is)
      | false ↦ λ is. omega (arith, later, positive (i % 16) is)
    ] refl

pub whole_list_long : (place : ℕ) (before : Bytes) (es : List Entry) → length (flat_map (little_bytes 2) (listed_places 0 place before es)) ≡ places_length (length es)
whole_list_long place before es = omega (arith, list_long 0 place before es)

-- ---- each listed number is a place

-- the places fit two bytes
pub record PlacesFit (place : ℕ) (i : ℕ) (before : Bytes) (es : List Entry) : Type 0 where
  pub first : 1 ≤ length es → place < 65536
  pub others : 2 ≤ length es → place + length (entries_bytes i before es) < 65536

later_fit : (place i : ℕ) (before : Bytes) (e : Entry) (es : List Entry) → PlacesFit place i before (e ∷ es)
    → PlacesFit (place + length (entry_bytes (wants_shared i before e.key) e)) (suc i) e.key es
unfolding entries_bytes
later_fit place i before e es fit =
    let n = wants_shared i before e.key in
    let long = length-append (entry_bytes n e) (entries_bytes (suc i) e.key es) in
    record {
      first = λ some. let most = fit.others (omega (arith, some)) in omega (arith, most, long);
      others = λ two. let most = fit.others (omega (arith, two)) in omega (arith, most, long);
    }

not_elsewhere : (bytes : Bytes) (i place : ℕ) → (begins_anew i ≡ true → listed_in bytes (i / 16) ≡ place) → is_listed_elsewhere Prefixed bytes i place ≡ false
not_elsewhere bytes i place is = elim (begins_anew i) as (λ t. (t ≡ true → listed_in bytes (i / 16) ≡ place) → (t && not (listed_in bytes (i / 16) == place)) ≡ false) [
  | true ↦ λ is. not_true _ (eq-eqb _ _ (is refl))
  | false ↦ λ is. refl
] is

listed_here : (bytes : Bytes) (i place : ℕ) (others : List ℕ) (more : Bytes) → i % 16 ≡ 0 → place < 65536
    → drop (8 + 2 * ((i + 15) / 16)) bytes ≡ flat_map (little_bytes 2) (place ∷ others) ++ more → listed_in bytes (i / 16) ≡ place
listed_here bytes i place others more is fits at =
    let same : 8 + 2 * (i / 16) ≡ 8 + 2 * ((i + 15) / 16) = omega (arith, is) in
    ap (λ (n : ℕ). little_number 2 (drop n bytes)) same ∙ ap (little_number 2) at
    ∙ ap (little_number 2) (append_assoc (little_bytes 2 place) (flat_map (little_bytes 2) others) more)
    ∙ number_again 2 place (flat_map (little_bytes 2) others ++ more) (omega (arith, fits))

listed_later : (bytes : Bytes) (i place : ℕ) (others : List ℕ) (more : Bytes) → i % 16 ≡ 0
    → drop (8 + 2 * ((i + 15) / 16)) bytes ≡ flat_map (little_bytes 2) (place ∷ others) ++ more
    → drop (8 + 2 * ((suc i + 15) / 16)) bytes ≡ flat_map (little_bytes 2) others ++ more
listed_later bytes i place others more is at =
    let n = 8 + 2 * ((i + 15) / 16) in
    let same : 8 + 2 * ((suc i + 15) / 16) ≡ n + 2 = omega (arith, is) in
    ap (λ (m : ℕ). drop m bytes) same ∙ sym (drop-drop 2 n bytes) ∙ ap (drop 2) at
    ∙ ap (drop 2) (append_assoc (little_bytes 2 place) (flat_map (little_bytes 2) others) more)

-- ---- entries, one after the other

pub same_list : (bytes : Bytes) (i : ℕ) → 0 < i % 16 → drop (8 + 2 * ((i + 15) / 16)) bytes ≡ drop (8 + 2 * ((suc i + 15) / 16)) bytes
same_list bytes i some = ap (λ (n : ℕ). drop n bytes) (omega (arith, some))

pub entries_kept : (bytes : Bytes) (i place : ℕ) (before : Bytes) (es : List Entry) (more : Bytes) → AllByRecursion IsEntry es → Follow (is_before before) (keys_of es)
    → PlacesFit place i before es → drop (8 + 2 * ((i + 15) / 16)) bytes ≡ flat_map (little_bytes 2) (listed_places i place before es) ++ more
    → entries_fault_by Prefixed bytes i (length es) place before (entries_bytes i before es) ≡ None
unfolding entries_fault_by entries_bytes listed_places
entries_kept bytes i place before [] more is rises fit at = refl
entries_kept bytes i place before (e ∷ es) more is rises fit at =
    let n = wants_shared i before e.key in
    let rest = entries_bytes (suc i) e.key es in
    let all = entry_bytes n e ++ rest in
    let next = place + length (entry_bytes n e) in
    let others = listed_places (suc i) next e.key es in
    let few = (wants_few i before e.key).1 in
    let width : place + width_by Prefixed all ≡ next = ap (λ (w : ℕ). place + w) (width_is n e rest is.0 few) in
    let key = key_is n e rest is.0 few before (wants_whole i before e.key) in
    let behind = after_it n e rest is.0 few in
    let lists : (begins_anew i ≡ true → listed_in bytes (i / 16) ≡ place) × (drop (8 + 2 * ((suc i + 15) / 16)) bytes ≡ flat_map (little_bytes 2) others ++ more) =
    elim (begins_anew i) as (λ t. begins_anew i ≡ t → drop (8 + 2 * ((i + 15) / 16)) bytes ≡ flat_map (little_bytes 2) (cond t (place ∷ others) others) ++ more → (t ≡ true → listed_in bytes (i / 16) ≡ place) × (drop (8 + 2 * ((suc i + 15) / 16)) bytes ≡ flat_map (little_bytes 2) others ++ more)) [
      | true ↦ λ anew here. (λ _. listed_here bytes i place others more (eqb-true _ _ anew) (fit.first (omega arith)) here, listed_later bytes i place others more (eqb-true _ _ anew) here)
      | false ↦ λ anew here. (λ no. absurd cc, sym (same_list bytes i (positive (i % 16) anew)) ∙ here)
    ] refl at in
    let later = entries_kept bytes (suc i) next e.key es more is.1 rises.1 (later_fit place i before e es fit) lists.1 in
    passed _ _ _ _ (not_elsewhere bytes i place lists.0)
    (none_of _ _ (entry_kept i place before e rest is.0 rises.0)
    ((λ j. entries_fault_by Prefixed bytes (suc i) (length es) (width j) (key j) (behind j)) ∙ later))

pub entries_again : (i : ℕ) (before : Bytes) (es : List Entry) → AllByRecursion IsEntry es
    → entries_by Prefixed (length es) before (entries_bytes i before es) ≡ es
unfolding entries_by entries_bytes
entries_again i before [] is = refl
entries_again i before (e ∷ es) is =
    let n = wants_shared i before e.key in
    let rest = entries_bytes (suc i) e.key es in
    let few = (wants_few i before e.key).1 in
    let key = key_is n e rest is.0 few before (wants_whole i before e.key) in
    let value = value_is n e rest is.0 few in
    let behind = after_it n e rest is.0 few in
    (λ j. entry_of (key j) (value j) ∷ entries_by Prefixed (length es) (key j) (behind j)) ∙ ap (λ (l : List Entry). e ∷ l) (entries_again (suc i) e.key es is.1)
