-- Where a cursor stands in a map.
use Rattle.std.specs.Prelude.{◌≡◌, ℕ, ◌<◌, ◌≤◌, not, List, [], length, slice_index_or, take, Option}
use Rattle.std.specs.List.{position_from}
use Rattle.filter_iter.specs.Cursors.{Standing}
use Rattle.fst_map.specs.Opened.{IsOpened}
use Rattle.key_base.specs.Limits.{max_key_bytes}
use Rattle.map_file_model.specs.Maps.{Bytes, Map}
use Rattle.map_model.specs.Slices.{is_before}
use Rattle.map_parts.specs.declared.parts.Parts.{Parts}
use Rattle.whole_keys.specs.Whole.{stubs}

-- a pair of a map, by its number in the order of the keys
pub record Place : Type 0 where
  pub map : Map
  pub number : ℕ

-- at another pair of the same map
abbrev pub moved : Place → ℕ → Place
moved p number = record p { number = number }

-- the number of the first key that is not below lo
abbrev pub first_key : List Bytes → Bytes → Option ℕ
first_key keys lo = position_from (λ key. not (is_before key lo)) 0 keys

-- the first bytes of a buffer are the key of this number
pub record IsWritten (keys : List Bytes) (number : ℕ) (buffer : Bytes) (len : ℕ) : Type 0 where
  pub within : number < length keys
  pub fits : len ≤ max_key_bytes
  pub key : slice_index_or keys number [] ≡ take len buffer

-- a leaf of the trie of opened bytes, and its key
pub record IsAt (bytes : Bytes) (parts : Parts) (leaf : Standing) (buffer : Bytes) (len : ℕ) : Type 0 where
  pub opened : IsOpened bytes parts leaf.image
  pub written : IsWritten (stubs leaf.image.leaves) leaf.leaf buffer len
