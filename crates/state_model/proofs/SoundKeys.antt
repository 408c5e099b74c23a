-- The keys of a sound table, and what is of no sound state.
use Rattle.std.proofs.Common.{◌≡◌, ℕ, ◌≤◌, ◌<◌, ◌^◌, List, [], ◌∷◌, ◌++◌, length, sym, ap, subst, true, map, arith}
use Rattle.std.specs.List.{AllByRecursion}
use Rattle.std.specs.Ordering.{is_lt}
use Rattle.std.proofs.lemmas.List.{length-map}
use Rattle.std.proofs.lemmas.List.Elements.{All-from_recursion}
use Rattle.block_model.proofs.Bounds.{weaker}
use Rattle.entry_model.specs.Entries.{IsEntry, Entry, keys_of}
use Rattle.extent_model.specs.Extents.{Extent, IsOnDevice}
use Rattle.extent_model.proofs.Lists.{Pairs, all_pairs}
use Rattle.filter_model.specs.Keys.{IsKey, IsKeyList}
use Rattle.filter_model.specs.Strings.{is_before}
use Rattle.key_base.specs.Limits.{first_table_page, log_bytes, max_tables}
use Rattle.map_model.specs.SortedMap.{Bytes}
use Rattle.entry_model.specs.Newest.{ComesBehind, KeysRise}
use Rattle.state_model.specs.State.{State, written_by}
use Rattle.table_model.specs.Tables.{FilterBytes, Table}
use Rattle.state_model.specs.Taken.{extent_of}
use Rattle.state_model.specs.Sound.{IsSoundTable, IsSound}
use Rattle.state_model.proofs.Hulls.{rises_of}
use Rattle.state_model.proofs.Orders.{all_to_map, pairs_to_map}
use Rattle.state_model.specs.Logs.{filled_by}

key_of_entry : (e : Entry) → IsEntry e → IsKey e.key
key_of_entry e is = record { bytes = is.key_bytes; filled = is.some_key; short = is.short_key }

rising_pairs : (entries : List Entry) → KeysRise entries → Pairs (λ (x y : Entry). is_before x.key y.key ≡ true) entries
rising_pairs [] rises = tt
rising_pairs (e ∷ more) rises = (weaker (ComesBehind e.key) (λ (y : Entry). is_before e.key y.key ≡ true) (λ y less. ap is_lt less) more rises.0, rising_pairs more rises.1)

pub key_list : (t : Table) → IsSoundTable t → IsKeyList (keys_of t.entries)
key_list t is =
    let many : length (keys_of t.entries) ≡ length t.entries = length-map t.entries (λ (e : Entry). e.key) in
    record {
      some = omega (arith, many, is.entries.some);
      few = subst (λ (n : ℕ). n < 2 ^ 32) (sym many) is.entries.sound.few;
      each = All-from_recursion IsKey (keys_of t.entries) (all_to_map IsKey (λ (e : Entry). e.key) t.entries
          (weaker IsEntry (λ (e : Entry). IsKey e.key) key_of_entry t.entries is.entries.sound.each));
      rising = all_pairs (λ (x y : Bytes). is_before x y ≡ true) (keys_of t.entries)
          (pairs_to_map (λ (x y : Bytes). is_before x y ≡ true) (λ (e : Entry). e.key) t.entries (rising_pairs t.entries (rises_of t is)));
    }

pub too_many : (filter_bytes : FilterBytes) (s : State) → max_tables < length s.tables → IsSound filter_bytes s → ⊥
too_many filter_bytes s many sound = let few : length s.tables ≤ max_tables = sound.few in absurd (omega (arith, many, few))

pub full_log : (filter_bytes : FilterBytes) (s : State) → log_bytes ≤ filled_by s.log → IsSound filter_bytes s → ⊥
full_log filter_bytes s full sound = absurd (omega (arith, full, sound.log_fits))

at_one : (P : Extent → Type 0) (before more written kept : List Table) (t : Table) → AllByRecursion P (map extent_of ((before ++ (t ∷ more)) ++ written ++ kept))
    → P (extent_of t)
at_one P [] more written kept t all = all.0
at_one P (u ∷ before) more written kept t all = at_one P before more written kept t all.1

pub low_page : (filter_bytes : FilterBytes) (s : State) (before more : List Table) (t : Table) → s.tables ≡ before ++ (t ∷ more) → t.first_page < first_table_page
    → IsSound filter_bytes s → ⊥
low_page filter_bytes s before more t tables low sound =
    let on = subst (λ (l : List Table). AllByRecursion (IsOnDevice s.pages) (map extent_of (l ++ written_by s.job ++ s.kept))) tables sound.on_device in
    let from : first_table_page ≤ t.first_page = (at_one (IsOnDevice s.pages) before more (written_by s.job) s.kept t on).from in absurd (omega (arith, from, low))
