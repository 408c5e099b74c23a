-- A table as a state has it, and the one that is made of some entries.
use Rattle.std.specs.Prelude.{ℕ, ◌+◌, List, [], length}
use Rattle.filter_api.specs.Spellings.{Spelling}
use Rattle.filter_api.specs.declared.settings.Settings.{Settings}
use Rattle.filter_model.specs.Leaves.{Leaf, leaves_of}
use Rattle.map_model.specs.SortedMap.{Bytes}
use Rattle.entry_model.specs.Entries.{Entry, keys_of}
use Rattle.block_model.specs.Pages.{pages_for, blocks_of, data_pages, index_length, index_length_with}
use Rattle.range_model.specs.Ranges.{DeletedRange}
use Rattle.range_model.specs.Sources.{Source}

-- A table: its level, its first page and how many pages it takes, of how many data blocks it is made, the settings that its
-- filter was built with, its entries, with strictly rising keys, and the ranges of keys that it deletes in older tables.
pub record Table : Type 0 where
  pub level : ℕ
  pub first_page : ℕ
  pub pages : ℕ
  pub blocks : ℕ
  pub settings : Settings
  pub entries : List Entry
  pub ranges : List DeletedRange

-- what the table says of keys, by its entries and its ranges
abbrev pub as_source : Table → Source
as_source t = record { entries = t.entries; ranges = t.ranges }

-- the bytes of the filter that is built of some keys, by the settings: a parameter, for each kind of filter its own
abbrev pub FilterBytes : Type 0
FilterBytes = Settings → List Bytes → Bytes

-- those of the filters that a kind of filter builds, by its spelling and the cutoff that it leaves for a ratio
abbrev pub filter_bytes_of : Spelling → (ℕ → List Leaf → ℕ) → FilterBytes
filter_bytes_of spelling cutoff settings keys =
    let leaves = leaves_of settings.hash_bits settings.real_bits keys in
    spelling settings.hash_bits settings.real_bits (cutoff settings.ratio leaves) leaves

-- data, index and filter, each in whole pages
abbrev pub table_pages : FilterBytes → Settings → List Entry → ℕ
table_pages filter_bytes settings entries =
    data_pages entries + pages_for (index_length entries) + pages_for (length (filter_bytes settings (keys_of entries)))

-- the pages of a table of entries with ranges
abbrev pub source_pages : FilterBytes → Settings → Source → ℕ
source_pages filter_bytes settings s =
    data_pages s.entries + pages_for (index_length_with s.entries s.ranges) + pages_for (length (filter_bytes settings (keys_of s.entries)))

-- the table that is made of entries with ranges
abbrev pub table_from : FilterBytes → Settings → ℕ → ℕ → Source → Table
table_from filter_bytes settings level first_page s = record {
  level = level;
  first_page = first_page;
  pages = source_pages filter_bytes settings s;
  blocks = length (blocks_of s.entries);
  settings = settings;
  entries = s.entries;
  ranges = s.ranges;
}

-- the table that is made of some entries, and no range
abbrev pub table_of : FilterBytes → Settings → ℕ → ℕ → List Entry → Table
table_of filter_bytes settings level first_page entries = record {
  level = level;
  first_page = first_page;
  pages = table_pages filter_bytes settings entries;
  blocks = length (blocks_of entries);
  settings = settings;
  entries = entries;
  ranges = [];
}
