-- Entries between two bounds, of entries whose keys rise.
use Rattle.std.proofs.Common.{◌≡◌, ◌+◌, ◌≤◌, ◌<◌, ℕ, Bool, true, false, cond, not, ◌&&◌, List, [], ◌∷◌, length, refl, sym, ap, subst, arith}
use Rattle.std.specs.Prelude.{Some, count_by, map}
use Rattle.std.specs.List.{AllByRecursion}
use Rattle.std.specs.Ordering.{is_lt}
use Rattle.std.specs.Cmp.Lexicographic.{nat_list_cmp_total}
use Rattle.std.proofs.lemmas.List.{length-map}
use Rattle.std.proofs.lemmas.List.Sums.{sum_by-cons}
use Rattle.byte_fields.specs.declared.parts.Row.{Row}
use Rattle.entry_model.specs.Entries.{Entry}
use Rattle.entry_model.specs.Newest.{ComesBehind, KeysRise, entries_from}
use Rattle.log_model.specs.Changes.{recorded}
use Rattle.map_model.specs.Slices.{is_before, is_between, is_up_to}
use Rattle.map_model.specs.SortedMap.{Bytes}
use Rattle.map_model.proofs.Between.{before_less}
use Rattle.range_model.specs.Sources.{Source}
use Rattle.state_model.proofs.Sayings.{source_sound}
use Rattle.state_model.proofs.SoundLogs.{few_filled, source_few}
use Rattle.table_file.specs.Opened.{Opened}
use Rattle.store_core.specs.StoreValue.{IsConsistent, IsOfChanges, StoreValue}

abbrev pub up_to_count : Bytes → List Entry → ℕ
up_to_count high entries = count_by (λ (e : Entry). is_up_to (Some high) e.key) entries

abbrev pub between_count : Bytes → Bytes → List Entry → ℕ
between_count low high entries = count_by (λ (e : Entry). is_between low (Some high) e.key) entries

-- one where it is so
abbrev one_if : Bool → ℕ
one_if is = cond is 1 0

up_to_more : (high : Bytes) (e : Entry) (more : List Entry) → up_to_count high (e ∷ more) ≡ one_if (is_up_to (Some high) e.key) + up_to_count high more
up_to_more high e more = sum_by-cons (λ (x : Entry). one_if (is_up_to (Some high) x.key)) e more

between_more : (low high : Bytes) (e : Entry) (more : List Entry) → between_count low high (e ∷ more) ≡ one_if (is_between low (Some high) e.key) + between_count low high more
between_more low high e more = sum_by-cons (λ (x : Entry). one_if (is_between low (Some high) x.key)) e more

-- those from a bound on, and up to the other
pub from_then_up_to : (low high : Bytes) (entries : List Entry) → up_to_count high (entries_from entries low) ≡ between_count low high entries
from_then_up_to low high [] = refl
from_then_up_to low high (e ∷ more) = by_test (from_then_up_to low high more) (is_before e.key low) refl
  where
    by_test : up_to_count high (entries_from more low) ≡ between_count low high more → (before : Bool) → is_before e.key low ≡ before
        → up_to_count high (entries_from (e ∷ more) low) ≡ between_count low high (e ∷ more)
    by_test later true is =
        let here : one_if (is_between low (Some high) e.key) ≡ 0 = ap (λ (b : Bool). one_if (not b && is_up_to (Some high) e.key)) is in
        let rest : entries_from (e ∷ more) low ≡ entries_from more low = ap (λ (b : Bool). cond (not b) (e ∷ entries_from more low) (entries_from more low)) is in
        omega (arith, here, ap (up_to_count high) rest, between_more low high e more, later)
    by_test later false is =
        let here : one_if (is_between low (Some high) e.key) ≡ one_if (is_up_to (Some high) e.key) = ap (λ (b : Bool). one_if (not b && is_up_to (Some high) e.key)) is in
        let rest : entries_from (e ∷ more) low ≡ e ∷ entries_from more low = ap (λ (b : Bool). cond (not b) (e ∷ entries_from more low) (entries_from more low)) is in
        omega (arith, here, ap (up_to_count high) rest, between_more low high e more, up_to_more high e (entries_from more low), later)

-- above the upper one there are none
pub none_above : (high key : Bytes) (entries : List Entry) → is_before high key ≡ true → AllByRecursion (λ (e : Entry). ComesBehind key e) entries → up_to_count high entries ≡ 0
none_above high key [] above all = refl
none_above high key (e ∷ more) above all =
    let after : is_before high e.key ≡ true = ap is_lt (nat_list_cmp_total.trans high key e.key (before_less high key above) all.0) in
    let here : one_if (is_up_to (Some high) e.key) ≡ 0 = ap (λ (b : Bool). one_if (not b)) after in
    omega (arith, here, up_to_more high e more, none_above high key more above all.1)

pub one_above : (high : Bytes) (e : Entry) (more : List Entry) → is_before high e.key ≡ true → KeysRise (e ∷ more) → up_to_count high (e ∷ more) ≡ 0
one_above high e more above rises =
    let here : one_if (is_up_to (Some high) e.key) ≡ 0 = ap (λ (b : Bool). one_if (not b)) above in
    omega (arith, here, up_to_more high e more, none_above high e.key more above rises.0)

pub one_up_to : (high : Bytes) (e : Entry) (more : List Entry) → is_before high e.key ≡ false → up_to_count high (e ∷ more) ≡ 1 + up_to_count high more
one_up_to high e more upto =
    let here : one_if (is_up_to (Some high) e.key) ≡ 1 = ap (λ (b : Bool). one_if (not b)) upto in
    omega (arith, here, up_to_more high e more)

-- ---- entries that rise, from a bound on

pub above_from : (key low : Bytes) (entries : List Entry) → AllByRecursion (λ (e : Entry). ComesBehind key e) entries → AllByRecursion (λ (e : Entry). ComesBehind key e) (entries_from entries low)
above_from key low [] all = tt
above_from key low (e ∷ more) all = elim (is_before e.key low) as (λ b. AllByRecursion (λ (x : Entry). ComesBehind key x) (cond (not b) (e ∷ entries_from more low) (entries_from more low))) [
  | true ↦ above_from key low more all.1
  | false ↦ (all.0, above_from key low more all.1)
]

pub from_rises : (low : Bytes) (entries : List Entry) → KeysRise entries → KeysRise (entries_from entries low)
from_rises low [] rises = tt
from_rises low (e ∷ more) rises = elim (is_before e.key low) as (λ b. KeysRise (cond (not b) (e ∷ entries_from more low) (entries_from more low))) [
  | true ↦ from_rises low more rises.1
  | false ↦ (above_from e.key low more rises.0, from_rises low more rises.1)
]

pub from_few : (low : Bytes) (entries : List Entry) → length (entries_from entries low) ≤ length entries
from_few low [] = omega arith
from_few low (e ∷ more) = elim (is_before e.key low) as (λ b. length (cond (not b) (e ∷ entries_from more low) (entries_from more low)) ≤ length (e ∷ more)) [
  | true ↦ omega (arith, from_few low more)
  | false ↦ omega (arith, from_few low more)
]

-- ---- the memory and the tables of a store

pub memory_rises : (log : _) (memory : Source) → IsOfChanges log memory → KeysRise memory.entries
memory_rises log memory of = subst (λ (source : Source). KeysRise source.entries) (sym of.memory_is) (source_sound of.changes).rises

pub memory_few : (log : _) (memory : Source) → IsOfChanges log memory → length memory.entries < 262144
memory_few log memory of =
    omega (arith, ap (λ (source : Source). length source.entries) of.memory_is, source_few of.changes, length-map of.changes recorded, few_filled (map recorded of.changes), of.fits)

pub tables_few : (store : StoreValue) → IsConsistent store → length store.tables ≤ 1024
tables_few store whole =
    omega (arith, length-map store.tables (λ (t : Opened). t.row), ap (λ (rows : List Row). length rows) whole.rows, whole.version.few_tables)
