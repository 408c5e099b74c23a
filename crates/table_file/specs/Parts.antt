-- The parts of a table in memory, before they are written.
use Rattle.std.specs.Prelude.{◌≡◌, ℕ, List, length}
use Rattle.filter_api.specs.Ranges.{InRange}
use Rattle.filter_api.specs.Spellings.{MayStand, Spelling}
use Rattle.filter_api.specs.declared.settings.Settings.{Settings}
use Rattle.filter_model.specs.Leaves.{Filter, Leaf, leaves_of}
use Rattle.map_model.specs.SortedMap.{Bytes}
use Rattle.entry_model.specs.Entries.{keys_of}
use Rattle.range_model.specs.Sources.{Source}
use Rattle.block_model.specs.Block.{IsTable, data_bytes}
use Rattle.block_model.specs.Index.{AreIndexRanges, Index, index_bytes, index_with}

-- the filter that is built of some keys
abbrev pub filter_of : (ℕ → List Leaf → ℕ) → Settings → List Bytes → Filter
filter_of built_cutoff settings keys = record {
  hash_bits = settings.hash_bits;
  real_bits = settings.real_bits;
  cutoff = built_cutoff settings.ratio (leaves_of settings.hash_bits settings.real_bits keys);
  leaves = leaves_of settings.hash_bits settings.real_bits keys;
}

-- blocks, index and filter of some entries and ranges, and the bytes of index and filter
pub record ArePartsOf (spelling : Spelling) (built_cutoff : ℕ → List Leaf → ℕ) (settings : Settings) (s : Source)
    (count : ℕ) (blocks : Bytes) (index : Index) (index_part : Bytes) (filter : Filter) (filter_part : Bytes) : Type 0 where
  pub table : IsTable s.entries
  pub ranges : AreIndexRanges s.ranges
  pub range : InRange settings
  pub counted : count ≡ length s.entries
  pub blocks_are : blocks ≡ data_bytes s.entries
  pub index_is : index ≡ index_with s.entries s.ranges
  pub index_spelled : index_part ≡ index_bytes index
  pub filter_is : filter ≡ filter_of built_cutoff settings (keys_of s.entries)
  pub filter_spelled : filter_part ≡ spelling filter.hash_bits filter.real_bits filter.cutoff filter.leaves
  pub may_stand : MayStand filter.hash_bits filter.real_bits filter.cutoff filter.leaves
