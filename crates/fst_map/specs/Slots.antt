-- The slot of a key in the trie of whole keys.
use Rattle.std.specs.Prelude.{◌≡◌, ℕ, ◌<◌, List, [], length, slice_index_or}
use Rattle.map_file_model.specs.Maps.{Bytes, slotted}

-- the key stands in this slot
pub record IsSlotOfKey (keys : List Bytes) (key : Bytes) (slot : ℕ) : Type 0 where
  pub within : slot < length keys
  pub is : slice_index_or (slotted keys) slot [] ≡ key
