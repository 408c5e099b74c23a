-- An estimate is not below the true count.
use Rattle.std.proofs.Common.{◌≡◌, ℕ, ◌≤◌, ◌+◌, List, [], ◌∷◌, map, refl, sym, ap, ◌∙◌, true, false, cond, not, arith}
use Rattle.std.specs.Prelude.{Option, Some, None, bytes_eq, fold, count_by, sum_by}
use Rattle.std.specs.List.{AllByRecursion}
use Rattle.std.proofs.lemmas.List.Sums.{fold-append, sum_by-cons}
use Rattle.byte_fields.specs.Spelling.{IsBytes}
use Rattle.map_model.specs.SortedMap.{Bytes, Map, put, del, in_place}
use Rattle.entry_model.specs.Entries.{Entry, change_by, keys_of}
use Rattle.map_model.proofs.Maps.{by_order}
use Rattle.map_model.specs.Slices.{is_before, is_between, count}
use Rattle.map_model.proofs.Between.{counted, count_crossed}
use Rattle.filter_model.specs.Answers.{tally, true_count}
use Rattle.filter_model.proofs.Tallies.{tally_is_near}
use Rattle.range_model.specs.Clearing.{clear, lies_within}
use Rattle.range_model.specs.Ranges.{DeletedRange}
use Rattle.range_model.specs.Sources.{Sets, Clears, Source, changes_in}
use Rattle.range_model.specs.ChangedMaps.{map_changed_by}
use Rattle.range_model.proofs.ChangedMaps.{changes_rise, source_keeps_map}
use Rattle.state_model.specs.State.{State}
use Rattle.table_model.specs.Tables.{FilterBytes, Table, as_source}
use Rattle.state_model.specs.View.{in_memory, memory, oldest_first, state_map}
use Rattle.state_model.specs.Bounds.{table_leaves, estimate}
use Rattle.state_model.specs.Sound.{IsSound, IsSoundTable}
use Rattle.state_model.proofs.SoundKeys.{key_list}

-- how many of a map's pairs, and of some entries, lie from lo to hi
abbrev pairs_in : Bytes → Bytes → Map → ℕ
pairs_in lo hi map = count_by (λ (pair : Bytes × Bytes). is_between lo (Some hi) pair.0) map

abbrev entries_in : Bytes → Bytes → List Entry → ℕ
entries_in lo hi entries = count_by (λ (e : Entry). is_between lo (Some hi) e.key) entries

-- a key counts for one where it lies there
abbrev one_in : Bytes → Bytes → Bytes → ℕ
one_in lo hi key = cond (is_between lo (Some hi) key) 1 0

pair_more : (lo hi : Bytes) (pair : Bytes × Bytes) (more : Map) → pairs_in lo hi (pair ∷ more) ≡ one_in lo hi pair.0 + pairs_in lo hi more
pair_more lo hi pair more = sum_by-cons (λ (p : Bytes × Bytes). one_in lo hi p.0) pair more

entry_more : (lo hi : Bytes) (e : Entry) (more : List Entry) → entries_in lo hi (e ∷ more) ≡ one_in lo hi e.key + entries_in lo hi more
entry_more lo hi e more = sum_by-cons (λ (x : Entry). one_in lo hi x.key) e more

-- ---- a map has no more pairs there than it was made of

put_adds : (lo hi : Bytes) (map : Map) (key value : Bytes) → pairs_in lo hi (put map key value) ≤ one_in lo hi key + pairs_in lo hi map
put_adds lo hi [] key value = omega (arith, pair_more lo hi (key, value) [])
put_adds lo hi (pair ∷ more) key value =
    by_order (λ o. pairs_in lo hi (in_place o (key, value) pair more (put more key value)) ≤ one_in lo hi key + pairs_in lo hi (pair ∷ more)) key pair.0
    (λ _. omega (arith, pair_more lo hi (key, value) (pair ∷ more)))
    (λ _. omega (arith, pair_more lo hi (key, value) more, pair_more lo hi pair more))
    (λ _. omega (arith, pair_more lo hi pair (put more key value), pair_more lo hi pair more, put_adds lo hi more key value))

del_adds : (lo hi : Bytes) (map : Map) (key : Bytes) → pairs_in lo hi (del map key) ≤ pairs_in lo hi map
del_adds lo hi [] key = omega arith
del_adds lo hi (pair ∷ more) key = elim (bytes_eq pair.0 key) as (λ b. pairs_in lo hi (cond b (del more key) (pair ∷ del more key)) ≤ pairs_in lo hi (pair ∷ more)) [
  | true ↦ omega (arith, pair_more lo hi pair more, del_adds lo hi more key)
  | false ↦ omega (arith, pair_more lo hi pair more, pair_more lo hi pair (del more key), del_adds lo hi more key)
]

change_adds : (lo hi : Bytes) (map : Map) (key : Bytes) (value : Option Bytes) → pairs_in lo hi (change_by map key value) ≤ one_in lo hi key + pairs_in lo hi map
change_adds lo hi map key (Some value) = put_adds lo hi map key value
change_adds lo hi map key None = omega (arith, del_adds lo hi map key)

all_add : (lo hi : Bytes) (pairs : Map) (entries : List Entry) → pairs_in lo hi (fold map_changed_by pairs (map Sets entries)) ≤ pairs_in lo hi pairs + entries_in lo hi entries
all_add lo hi pairs [] = omega arith
all_add lo hi pairs (e ∷ more) = omega (arith, all_add lo hi (map_changed_by pairs (Sets e)) more, change_adds lo hi pairs e.key e.value, entry_more lo hi e more)

clear_adds : (lo hi low high : Bytes) (pairs : Map) → pairs_in lo hi (clear pairs low high) ≤ pairs_in lo hi pairs
clear_adds lo hi low high [] = omega arith
clear_adds lo hi low high (pair ∷ more) = elim (lies_within low high pair.0) as (λ b. pairs_in lo hi (cond (not b) (pair ∷ clear more low high) (clear more low high)) ≤ pairs_in lo hi (pair ∷ more)) [
  | true ↦ omega (arith, pair_more lo hi pair more, clear_adds lo hi low high more)
  | false ↦ omega (arith, pair_more lo hi pair more, pair_more lo hi pair (clear more low high), clear_adds lo hi low high more)
]

all_clear : (lo hi : Bytes) (pairs : Map) (ranges : List DeletedRange) → pairs_in lo hi (fold map_changed_by pairs (map Clears ranges)) ≤ pairs_in lo hi pairs
all_clear lo hi pairs [] = omega arith
all_clear lo hi pairs (range ∷ more) = omega (arith, all_clear lo hi (map_changed_by pairs (Clears range)) more, clear_adds lo hi range.lo range.hi pairs)

-- a source adds no more than its entries
source_adds : (lo hi : Bytes) (pairs : Map) (s : Source) → pairs_in lo hi (fold map_changed_by pairs (changes_in s)) ≤ pairs_in lo hi pairs + entries_in lo hi s.entries
source_adds lo hi pairs s =
    let parts = ap (pairs_in lo hi) (fold-append map_changed_by pairs (map Clears s.ranges) (map Sets s.entries)) in
    omega (arith, parts, all_add lo hi (fold map_changed_by pairs (map Clears s.ranges)) s.entries, all_clear lo hi pairs s.ranges)

-- ---- the entries of tables

tables_in : Bytes → Bytes → List Table → ℕ
tables_in lo hi [] = 0
tables_in lo hi (t ∷ more) = entries_in lo hi t.entries + tables_in lo hi more

tables_add : (lo hi : Bytes) (tables : List Table) → pairs_in lo hi (fold map_changed_by [] (oldest_first tables)) ≤ tables_in lo hi tables
unfolding tables_in
tables_add lo hi [] = omega arith
tables_add lo hi (t ∷ more) =
    let parts = ap (pairs_in lo hi) (fold-append map_changed_by [] (oldest_first more) (changes_in (as_source t))) in
    omega (arith, parts, source_adds lo hi (fold map_changed_by [] (oldest_first more)) (as_source t), tables_add lo hi more)

true_entries : (lo hi : Bytes) (entries : List Entry) → true_count (keys_of entries) lo hi ≡ entries_in lo hi entries
true_entries lo hi [] = refl
true_entries lo hi (e ∷ more) =
    sum_by-cons (λ (k : Bytes). one_in lo hi k) e.key (keys_of more) ∙ ap (λ (n : ℕ). one_in lo hi e.key + n) (true_entries lo hi more) ∙ sym (entry_more lo hi e more)

tallies_enough : (lo hi : Bytes) (tables : List Table) → IsBytes lo → IsBytes hi → is_before hi lo ≡ false → AllByRecursion IsSoundTable tables
    → tables_in lo hi tables ≤ sum_by (λ (t : Table). tally t.settings.real_bits (table_leaves t) lo hi) tables
unfolding tables_in
tallies_enough lo hi [] low high order sound = omega arith
tallies_enough lo hi (t ∷ more) low high order sound =
    let near = (tally_is_near t.settings.hash_bits t.settings.real_bits (keys_of t.entries) lo hi sound.0.settings.real_bits (key_list t sound.0) (record { lo_bytes = low; hi_bytes = high; in_order = order })).0 in
    omega (
      arith,
      near,
      true_entries lo hi t.entries,
      tallies_enough lo hi more low high order sound.1,
      sum_by-cons (λ (u : Table). tally u.settings.real_bits (table_leaves u) lo hi) t more,
    )

-- ---- the estimate

-- what is in memory makes the same map as the log
same_as_memory : (s : State) → fold map_changed_by (fold map_changed_by [] (oldest_first s.tables)) (changes_in (in_memory s)) ≡ state_map s
same_as_memory s =
    let tables = fold map_changed_by [] (oldest_first s.tables) in
    source_keeps_map tables s.log (changes_rise [] (oldest_first s.tables) tt) ∙ sym (fold-append map_changed_by [] (oldest_first s.tables) s.log)

map_few : (s : State) (lo hi : Bytes) → pairs_in lo hi (state_map s) ≤ tables_in lo hi s.tables + entries_in lo hi (memory s)
map_few s lo hi =
    let made = ap (pairs_in lo hi) (same_as_memory s) in
    omega (arith, made, source_adds lo hi (fold map_changed_by [] (oldest_first s.tables)) (in_memory s), tables_add lo hi s.tables)

pub estimate_enough : (filter_bytes : FilterBytes) (s : State) (lo hi : Bytes) → IsSound filter_bytes s → IsBytes lo → IsBytes hi → count (state_map s) lo (Some hi) ≤ estimate s lo hi
estimate_enough filter_bytes s lo hi sound low high =
    let told = entries_in lo hi (memory s) + sum_by (λ (t : Table). tally t.settings.real_bits (table_leaves t) lo hi) s.tables in
    elim (is_before hi lo) as (λ b. is_before hi lo ≡ b → count (state_map s) lo (Some hi) ≤ cond b 0 told) [
      | true ↦ λ e. omega (arith, count_crossed (state_map s) lo hi e)
      | false ↦ λ e. omega (arith, counted (state_map s) lo (Some hi), map_few s lo hi, tallies_enough lo hi s.tables low high e sound.tables)
    ] refl
