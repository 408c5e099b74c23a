-- A table's waking key, against its entries and its filter.
use Rattle.std.proofs.Common.{◌≡◌, ◌∙◌, ◌≤◌, ◌<◌, ◌-◌, ℕ, zero, suc, Bool, true, false, cond, not, ◌&&◌, List, [], ◌∷◌, inl, inr, length, refl, sym, ap, ap₂, subst, arith}
use Rattle.std.specs.Prelude.{Option, Some, None}
use Rattle.std.specs.List.{AllByRecursion, Contains}
use Rattle.std.proofs.lemmas.Bool.{false≢true}
use Rattle.block_model.specs.Pages.{first_key, last_key}
use Rattle.byte_fields.specs.Spelling.{IsBytes}
use Rattle.disk_trait.specs.Image.{Image}
use Rattle.entry_model.specs.Entries.{Entry, IsEntry, keys_of}
use Rattle.entry_model.specs.Newest.{ComesBehind, KeysRise, entries_from}
use Rattle.filter_api.specs.Spellings.{Spelling}
use Rattle.filter_model.proofs.Seeks.{ranged_by_first}
use Rattle.filter_model.proofs.Tallies.{no_held_range_is_denied}
use Rattle.filter_model.proofs.Validity.{leaves_are_valid}
use Rattle.filter_model.specs.Leaves.{Leaf}
use Rattle.key_base.specs.ByteOrder.{is_before}
use Rattle.late_rows.specs.Late.{AreFrom}
use Rattle.map_model.specs.SortedMap.{Bytes}
use Rattle.merge_rows.proofs.Keys.{not_before_back, not_before_itself}
use Rattle.state_model.proofs.Hulls.{rises_of}
use Rattle.state_model.proofs.SoundKeys.{key_list}
use Rattle.state_model.specs.Bounds.{admits_range, table_leaves}
use Rattle.state_model.specs.Merges.{greatest_key, least_key}
use Rattle.state_model.specs.Sound.{IsSoundTable}
use Rattle.store_core.proofs.Tellings.{leaves_are, real_are}
use Rattle.store_core.specs.Scans.{waking_from}
use Rattle.store_search.proofs.Founds.{held_entries}
use Rattle.store_search.specs.TablesAgree.{TableAgrees}
use Rattle.table_file.specs.Laws.{StandingKeys}
use Rattle.table_file.specs.Opened.{Opened}
use Rattle.table_file.specs.Search.{row_at}
use Rattle.table_model.specs.Tables.{Table}
use Rattle.waking_keys.proofs.Near.{not_below_second, nothing_before_waking, nothing_without_waking, wakes_so}
use Rattle.waking_keys.specs.Laws.{AreEnds}
use Rattle.waking_keys.specs.Waking.{begins_at, no_leaf, waking_key}

-- ---- the least and the greatest of keys that rise

all_behind : (low : Bytes) (entries : List Entry) → AllByRecursion (ComesBehind low) entries → (k : Bytes) → Contains (keys_of entries) k → is_before k low ≡ false
all_behind low [] behind k (i, lt, is) = absurd (omega (arith, lt))
all_behind low (e ∷ more) behind k (zero, lt, is) = subst (λ (y : Bytes). is_before y low ≡ false) is (not_before_back low e.key behind.0)
all_behind low (e ∷ more) behind k (suc i, lt, is) = all_behind low more behind.1 k (i, omega (arith, lt), is)

from_first : (entries : List Entry) → KeysRise entries → (k : Bytes) → Contains (keys_of entries) k → is_before k (first_key entries) ≡ false
from_first [] rises k (i, lt, is) = absurd (omega (arith, lt))
from_first (e ∷ more) rises k (zero, lt, is) = subst (λ (y : Bytes). is_before y e.key ≡ false) is (not_before_itself e.key)
from_first (e ∷ more) rises k (suc i, lt, is) = all_behind e.key more rises.0 k (i, omega (arith, lt), is)

last_in : (e : Entry) (more : List Entry) → Contains (keys_of (e ∷ more)) (last_key (e ∷ more))
last_in e [] = (0, omega arith, refl)
last_in e (next ∷ more) = let rest = last_in next more in (suc rest.0, omega (arith, rest.1), rest.2)

to_last : (entries : List Entry) → KeysRise entries → (k : Bytes) → Contains (keys_of entries) k → is_before (last_key entries) k ≡ false
to_last [] rises k (i, lt, is) = absurd (omega (arith, lt))
to_last (e ∷ []) rises k (zero, lt, is) = subst (λ (y : Bytes). is_before e.key y ≡ false) is (not_before_itself e.key)
to_last (e ∷ []) rises k (suc i, lt, is) = absurd (omega (arith, lt))
to_last (e ∷ next ∷ more) rises k (zero, lt, is) = subst (λ (y : Bytes). is_before (last_key (next ∷ more)) y ≡ false) is (all_behind e.key (next ∷ more) rises.0 (last_key (next ∷ more)) (last_in next more))
to_last (e ∷ next ∷ more) rises k (suc i, lt, is) = to_last (next ∷ more) rises.1 k (i, omega (arith, lt), is)

first_in : (entries : List Entry) → 1 ≤ length entries → Contains (keys_of entries) (first_key entries)
first_in [] some = absurd (omega (arith, some))
first_in (e ∷ more) some = (0, omega arith, refl)

first_bytes : (entries : List Entry) → 1 ≤ length entries → AllByRecursion IsEntry entries → IsBytes (first_key entries)
first_bytes [] some each = absurd (omega (arith, some))
first_bytes (e ∷ more) some each = each.0.key_bytes

ends_of : (t : Table) → IsSoundTable t → AreEnds (keys_of t.entries) (least_key t) (greatest_key t)
ends_of t is = record {
  there = first_in t.entries is.entries.some;
  none_below = from_first t.entries (rises_of t is);
  none_above = to_last t.entries (rises_of t is);
}

-- ---- of a table that is there

module _ (found : StandingKeys) (spelling : Spelling) (image : Image) (o : Opened) (t : Table) (held : TableAgrees spelling o t image) (sound : IsSoundTable t) (low : Bytes) (low_bytes : IsBytes low) where
  waking_is : waking_from low o ≡ waking_key t.settings.real_bits (table_leaves t) (least_key t) (greatest_key t) low
  waking_is =
      let keys = found spelling o held.blocks image held.stands in
      let same = sym (held_entries spelling o t image held) in
      let last = (row_at o.index.rows (length o.index.rows - 1)).last in
      ap (λ (n : ℕ). waking_key n o.filter.leaves o.index.least last low) (real_are spelling image o t held)
      ∙ ap (λ (ls : List Leaf). waking_key t.settings.real_bits ls o.index.least last low) (leaves_are spelling image o t held)
      ∙ ap (λ (k : Bytes). waking_key t.settings.real_bits (table_leaves t) k last low) (keys.least ∙ ap first_key same)
      ∙ ap (λ (k : Bytes). waking_key t.settings.real_bits (table_leaves t) (least_key t) k low) (keys.greatest ∙ ap last_key same)

  -- without one, each key is below the bound
  pub none_from : waking_from low o ≡ None → (k : Bytes) → Contains (keys_of t.entries) k → is_before k low ≡ true
  none_from none k there =
      nothing_without_waking t.settings.hash_bits t.settings.real_bits (keys_of t.entries) (least_key t) (greatest_key t) low k sound.settings.real_bits (key_list t sound) (ends_of t sound) low_bytes (sym waking_is ∙ none) there

  -- none from the bound on is below it
  pub none_before : (waking : Bytes) → waking_from low o ≡ Some waking → (k : Bytes) → Contains (keys_of t.entries) k → is_before k low ≡ false → is_before k waking ≡ false
  none_before waking is k there from =
      nothing_before_waking t.settings.hash_bits t.settings.real_bits (keys_of t.entries) (least_key t) (greatest_key t) low k waking sound.settings.real_bits (key_list t sound) (ends_of t sound) low_bytes (sym waking_is ∙ is) there from

  -- so are the entries from there on
  pub entries_from_waking : (waking : Bytes) → waking_from low o ≡ Some waking → AreFrom waking (entries_from t.entries low)
  entries_from_waking waking is = all_from t.entries (none_before waking is)
    where
      both : (e : Entry) (more : List Entry) → ((k : Bytes) → Contains (keys_of (e ∷ more)) k → is_before k low ≡ false → is_before k waking ≡ false) → AreFrom waking (entries_from more low) → (below : Bool) → is_before e.key low ≡ below
          → AreFrom waking (cond (not below) (e ∷ entries_from more low) (entries_from more low))
      both e more each rest true at = rest
      both e more each rest false at = (each e.key (0, omega arith, refl) at, rest)

      all_from : (entries : List Entry) → ((k : Bytes) → Contains (keys_of entries) k → is_before k low ≡ false → is_before k waking ≡ false) → AreFrom waking (entries_from entries low)
      all_from [] each = tt
      all_from (e ∷ more) each = both e more each (all_from more (λ k there. each k (suc there.0, omega (arith, there.1), there.2))) (is_before e.key low) refl

  -- the filter admits the range up to it
  pub waking_admitted : (waking : Bytes) → waking_from low o ≡ Some waking → admits_range low waking t ≡ true
  waking_admitted waking is = elim (wakes_so t.settings.real_bits (table_leaves t) (least_key t) (greatest_key t) low waking (sym waking_is ∙ is)) [
    | inl (above, same) ↦ subst (λ (hi : Bytes). admits_range low hi t ≡ true) same
        (no_held_range_is_denied t.settings.hash_bits t.settings.real_bits (keys_of t.entries) low (least_key t) (least_key t) (key_list t sound)
        (record { lo_bytes = low_bytes; hi_bytes = first_bytes t.entries sound.entries.some sound.entries.sound.each; in_order = above }) (first_in t.entries sound.entries.some)
        (ap₂ (λ (a b : Bool). not a && not b) above (not_before_itself (least_key t))))
    | inr (m, at, same) ↦ (ranged_by_first t.settings.hash_bits t.settings.real_bits (table_leaves t) low waking no_leaf sound.settings.real_bits
        (leaves_are_valid t.settings.hash_bits t.settings.real_bits (keys_of t.entries) sound.settings.real_bits (key_list t sound))).1
        (m, at, not_below_second waking (least_key t) (begins_at t.settings.real_bits (table_leaves t) m) (ap (is_before waking) same ∙ not_before_itself waking))
  ]
