-- What a memory table shows, and where a key's entry stands in it.
use Rattle.std.specs.Prelude.{◌≡◌, ℕ, ◌<◌, ◌≤◌, length, take, drop, List}
use Rattle.std.specs.List.{AllByRecursion, HoldsAt}
use Rattle.map_model.specs.SortedMap.{Bytes}
use Rattle.entry_model.specs.Entries.{Entry}
use Rattle.entry_model.specs.Newest.{ComesBefore, ComesBehind}
use Rattle.range_model.specs.Ranges.{DeletedRange}
use Rattle.range_model.specs.Sources.{Source}

-- its entries and its ranges, and for how many more of each it has room
pub record MemoryTable : Type 0 where
  pub entries : List Entry
  pub ranges : List DeletedRange
  pub spare : ℕ
  pub range_spare : ℕ

abbrev pub source_in : MemoryTable → Source
source_in t = record { entries = t.entries; ranges = t.ranges }

-- the entry of the key stands at this place, behind those of lesser keys
pub record KeyStandsAt (at : ℕ) (key : Bytes) (entries : List Entry) : Type 0 where
  pub within : at < length entries
  pub here : HoldsAt (λ e. e.key ≡ key) entries at
  pub before : AllByRecursion (ComesBefore key) (take at entries)

-- no entry has the key, and this place parts the lesser keys from the greater
pub record BelongsAt (at : ℕ) (key : Bytes) (entries : List Entry) : Type 0 where
  pub within : at ≤ length entries
  pub before : AllByRecursion (ComesBefore key) (take at entries)
  pub behind : AllByRecursion (ComesBehind key) (drop at entries)
