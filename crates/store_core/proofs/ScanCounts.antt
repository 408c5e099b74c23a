-- How many pairs a state has, and what is so of a count of them.
use Rattle.std.proofs.Common.{◌≡◌, ◌∙◌, ◌≤◌, ◌<◌, ◌+◌, ◌-◌, ◌*◌, ℕ, zero, suc, Bool, true, false, cond, List, [], ◌∷◌, ◌++◌, length, drop, refl, sym, ap, arith}
use Rattle.std.specs.Prelude.{Option, Some, None, bytes_eq, fold, is_some, nat_lt}
use Rattle.std.specs.List.{AllByRecursion}
use Rattle.std.proofs.lemmas.Bool.{false≢true, ltb-false, ltb-true}
use Rattle.std.proofs.lemmas.List.{length-append}
use Rattle.disk_trait.specs.World.{World}
use Rattle.entry_model.specs.Entries.{Entry, change_by, changed}
use Rattle.line_model.specs.Replies.{Reply}
use Rattle.map_model.proofs.Between.{whole}
use Rattle.map_model.proofs.Maps.{by_order}
use Rattle.map_model.specs.Slices.{between, count, first_pair, is_before, is_between, slice}
use Rattle.map_model.specs.SortedMap.{Bytes, Map, del, in_place, put}
use Rattle.state_model.proofs.WithoutRanges.{map_alone}
use Rattle.state_model.proofs.SoundLogs.{few_filled}
use Rattle.state_model.specs.Sound.{IsSound, IsSoundTable}
use Rattle.state_model.specs.State.{State}
use Rattle.state_model.specs.View.{state_map}
use Rattle.state_model.specs.WithoutRanges.{HasOnlyEntries, table_entries}
use Rattle.store_core.proofs.Recorded.{entries_in}
use Rattle.store_core.proofs.ScanStates.{crossed_key}
use Rattle.store_core.specs.Answers.{IsTried}
use Rattle.store_core.specs.Counts.{IsCountRefusal}
use Rattle.store_core.specs.Getting.{IsMet, IsUndamaged}
use Rattle.store_core.specs.Scans.{IsScanRefusal, IsScanShown, IsStepFault}
use Rattle.store_core.specs.declared.error.StoreError.{StoreError}
use Rattle.store_core.specs.declared.error.StoreError.TheVariants as error
use Rattle.table_file.specs.Opened.{Opened}
use Rattle.disk_trait.specs.Image.{Image}
use Rattle.table_model.specs.Tables.{FilterBytes, Table}

-- ---- a map has no more pairs than it was made of

put_few : (map : Map) (key value : Bytes) → length (put map key value) ≤ length map + 1
put_few [] key value = omega arith
put_few (pair ∷ more) key value = by_order (λ o. length (in_place o (key, value) pair more (put more key value)) ≤ length (pair ∷ more) + 1) key pair.0
    (λ _. omega arith) (λ _. omega arith) (λ _. omega (arith, put_few more key value))

del_few : (map : Map) (key : Bytes) → length (del map key) ≤ length map
del_few [] key = omega arith
del_few (pair ∷ more) key = elim (bytes_eq pair.0 key) as (λ b. length (cond b (del more key) (pair ∷ del more key)) ≤ length (pair ∷ more)) [
  | true ↦ omega (arith, del_few more key)
  | false ↦ omega (arith, del_few more key)
]

change_few : (map : Map) (key : Bytes) (value : Option Bytes) → length (change_by map key value) ≤ length map + 1
change_few map key (Some value) = put_few map key value
change_few map key None = omega (arith, del_few map key)

all_few : (map : Map) (entries : List Entry) → length (fold changed map entries) ≤ length map + length entries
all_few map [] = omega arith
all_few map (e ∷ more) = omega (arith, all_few (changed map e) more, change_few map e.key e.value)

between_few : (map : Map) (low : Bytes) (high : Option Bytes) → count map low high ≤ length map
between_few [] low high = omega arith
between_few (pair ∷ more) low high = elim (is_between low high pair.0) as (λ b. length (cond b (pair ∷ between more low high) (between more low high)) ≤ length (pair ∷ more)) [
  | true ↦ omega (arith, between_few more low high)
  | false ↦ omega (arith, between_few more low high)
]

tables_few : (tables : List Table) → AllByRecursion IsSoundTable tables → length (table_entries tables) ≤ 4294967296 * length tables
tables_few [] sound = omega arith
tables_few (t ∷ more) sound = omega (arith, length-append (table_entries more) t.entries, tables_few more sound.1, sound.0.entries.sound.few)

pub count_few : (filter_bytes : FilterBytes) (s : State) (low : Bytes) (high : Option Bytes) → IsSound filter_bytes s → HasOnlyEntries s (entries_in s) → count (state_map s) low high ≤ 18446744073709551615
count_few filter_bytes s low high sound only =
    omega (
      arith,
      between_few (state_map s) low high,
      ap (λ (m : Map). length m) (map_alone s (entries_in s) only),
      all_few [] (table_entries s.tables ++ entries_in s),
      length-append (table_entries s.tables) (entries_in s),
      tables_few s.tables sound.tables,
      sound.few,
      few_filled (entries_in s),
      sound.log_fits,
    )

-- ---- pairs that are counted one by one

pub drop_next : (n : ℕ) (m : Map) → drop 1 (drop n m) ≡ drop (n + 1) m
drop_next n m = drop_suc n m ∙ ap (λ (k : ℕ). drop k m) (one_more n)
  where
    drop_suc : (n : ℕ) (m : Map) → drop 1 (drop n m) ≡ drop (suc n) m
    drop_suc zero [] = refl
    drop_suc zero (pair ∷ more) = refl
    drop_suc (suc n) [] = refl
    drop_suc (suc n) (pair ∷ more) = drop_suc n more

    one_more : (n : ℕ) → suc n ≡ n + 1
    one_more n = omega arith

pub some_behind : (n : ℕ) (m : Map) → is_some (first_pair (drop n m)) ≡ true → n < length m
some_behind zero [] some = absurd (false≢true some)
some_behind zero (pair ∷ more) some = omega arith
some_behind (suc n) [] some = absurd (false≢true some)
some_behind (suc n) (pair ∷ more) some = omega (arith, some_behind n more some)

pub none_behind : (n : ℕ) (m : Map) → first_pair (drop n m) ≡ None → length m ≤ n
none_behind zero [] none = omega arith
none_behind zero (pair ∷ more) none = absurd cc
none_behind (suc n) [] none = omega arith
none_behind (suc n) (pair ∷ more) none = omega (arith, none_behind n more none)

pub below_most : (left : Option ℕ) (n : ℕ) → left ≡ Some (18446744073709551615 - n) → n ≤ 18446744073709551615 → (left ≡ Some 0 → ⊥) → n < 18446744073709551615
below_most left n is few more = by_test (nat_lt n 18446744073709551615) refl
  where
    by_test : (less : Bool) → nat_lt n 18446744073709551615 ≡ less → n < 18446744073709551615
    by_test true yes_less = ltb-true n 18446744073709551615 yes_less
    by_test false not_less =
        let most : 18446744073709551615 - n ≡ 0 = omega (arith, few, ltb-false n 18446744073709551615 not_less) in
        absurd (more (is ∙ ap Some most))

pub counted_all : (filter_bytes : FilterBytes) (s : State) (low : Bytes) (high : Option Bytes) (n : ℕ) → IsSound filter_bytes s → HasOnlyEntries s (entries_in s) → n ≤ length (slice (state_map s) low high 18446744073709551615)
    → length (slice (state_map s) low high 18446744073709551615) ≤ n → n ≡ count (state_map s) low high
counted_all filter_bytes s low high n sound only few all =
    omega (arith, few, all, ap (λ (m : Map). length m) (whole (state_map s) low high 18446744073709551615 (count_few filter_bytes s low high sound only)))

-- ---- refusals

pub scan_count : (stopped : Bool) (broken : Option Reply) (a : World) (why : StoreError) → IsScanRefusal stopped broken why → IsCountRefusal stopped broken a a why
scan_count stopped broken a error.Memory is = is
scan_count stopped broken a (error.Device cause) is = absurd is
scan_count stopped broken a error.Stopped is = is
scan_count stopped broken a (error.Limit limit) is = is
scan_count stopped broken a (error.Full need gap) is = is
scan_count stopped broken a (error.Damaged d) is = absurd is
scan_count stopped broken a error.NotAStore is = is
scan_count stopped broken a error.AlreadyAStore is = is
scan_count stopped broken a (error.BadSettings field) is = is

pub step_count : (stopped : Bool) (broken : Option Reply) (a b c : World) (why : StoreError) → a.seen.read_faults ≤ b.seen.read_faults → IsTried stopped broken → IsStepFault b c why → IsCountRefusal stopped broken a c why
step_count stopped broken a b c error.Memory earlier run is = absurd is
step_count stopped broken a b c (error.Device cause) earlier run is = (run, (is.0, omega (arith, earlier, is.1)))
step_count stopped broken a b c error.Stopped earlier run is = absurd is
step_count stopped broken a b c (error.Limit limit) earlier run is = absurd is
step_count stopped broken a b c (error.Full need gap) earlier run is = is
step_count stopped broken a b c (error.Damaged d) earlier run is = (run, is)
step_count stopped broken a b c error.NotAStore earlier run is = is
step_count stopped broken a b c error.AlreadyAStore earlier run is = is
step_count stopped broken a b c (error.BadSettings field) earlier run is = is

pub scan_undamaged : (stopped : Bool) (broken : Option Reply) (why : StoreError) → IsScanRefusal stopped broken why → IsUndamaged why
scan_undamaged stopped broken error.Memory is = tt
scan_undamaged stopped broken (error.Device cause) is = tt
scan_undamaged stopped broken error.Stopped is = tt
scan_undamaged stopped broken (error.Limit limit) is = tt
scan_undamaged stopped broken (error.Full need gap) is = tt
scan_undamaged stopped broken (error.Damaged d) is = is
scan_undamaged stopped broken error.NotAStore is = tt
scan_undamaged stopped broken error.AlreadyAStore is = tt
scan_undamaged stopped broken (error.BadSettings field) is = tt

pub scan_shown : (stopped : Bool) (broken : Option Reply) (tables : List Opened) (image : Image) (why : StoreError) → IsScanRefusal stopped broken why → IsScanShown tables image why
scan_shown stopped broken tables image error.Memory is = tt
scan_shown stopped broken tables image (error.Device cause) is = tt
scan_shown stopped broken tables image error.Stopped is = tt
scan_shown stopped broken tables image (error.Limit limit) is = tt
scan_shown stopped broken tables image (error.Full need gap) is = tt
scan_shown stopped broken tables image (error.Damaged d) is = absurd is
scan_shown stopped broken tables image error.NotAStore is = tt
scan_shown stopped broken tables image error.AlreadyAStore is = tt
scan_shown stopped broken tables image (error.BadSettings field) is = tt

pub scan_met : (stopped : Bool) (broken : Option Reply) (most : ℕ) (why : StoreError) → IsScanRefusal stopped broken why → IsMet most why
scan_met stopped broken most error.Memory is = tt
scan_met stopped broken most (error.Device cause) is = absurd is
scan_met stopped broken most error.Stopped is = tt
scan_met stopped broken most (error.Limit limit) is = tt
scan_met stopped broken most (error.Full need gap) is = tt
scan_met stopped broken most (error.Damaged d) is = tt
scan_met stopped broken most error.NotAStore is = tt
scan_met stopped broken most error.AlreadyAStore is = tt
scan_met stopped broken most (error.BadSettings field) is = tt

pub met_any : (most : ℕ) (why : StoreError) → 0 < most → IsMet most why
met_any most error.Memory some = tt
met_any most (error.Device cause) some = omega (arith, some)
met_any most error.Stopped some = tt
met_any most (error.Limit limit) some = tt
met_any most (error.Full need gap) some = tt
met_any most (error.Damaged d) some = tt
met_any most error.NotAStore some = tt
met_any most error.AlreadyAStore some = tt
met_any most (error.BadSettings field) some = tt

pub none_pair : (pair : Option (Bytes × Bytes)) → is_some pair ≡ false → pair ≡ None
none_pair None none = refl
none_pair (Some pair) none = absurd (false≢true (sym none))

-- ---- between crossed bounds

none_between : (low high : Bytes) → is_before high low ≡ true → (m : Map) → between m low (Some high) ≡ []
none_between low high crossed [] = refl
none_between low high crossed (pair ∷ m) =
    elim (is_between low (Some high) pair.0) as (λ (b : Bool). is_between low (Some high) pair.0 ≡ b → cond b (pair ∷ between m low (Some high)) (between m low (Some high)) ≡ []) [
      | true ↦ λ is. absurd (crossed_key low high pair.0 crossed is)
      | false ↦ λ is. none_between low high crossed m
    ] refl

-- there is no pair
pub none_crossed : (low high : Bytes) → is_before high low ≡ true → (m : Map) → 0 ≡ count m low (Some high)
none_crossed low high crossed m = sym (ap (λ (p : Map). length p) (none_between low high crossed m))
