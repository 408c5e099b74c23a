-- The laws of the reading: a body that breaks no rule is that of the map that is read, and the body of a map breaks none and is
-- read as it.
use Rattle.std.specs.Prelude.{◌≡◌, ◌⊎◌, ℕ, ◌<◌, ◌≤◌, [], length, slice_index_or, None, Some}
use Rattle.std.specs.List.{Contains}
use Rattle.byte_fields.specs.Spelling.{IsBytes}
use Rattle.filter_image_model.specs.Header.{cutoff_in}
use Rattle.filter_image_model.specs.Reading.{leaves_in}
use Rattle.filter_model.specs.Trie.{height}
use Rattle.map_file_model.specs.Body.{body_of}
use Rattle.map_file_model.specs.Maps.{Bytes, IsMap, Map, get, keys_of, slotted}
use Rattle.map_file_model.specs.Reading.{body_fault, image_part, map_in, pair_count_in, values_in}
use Rattle.whole_keys.specs.Whole.{whole_leaves}

-- the bytes are the body of a map, with a cutoff from 0 to the height of its trie
pub record IsBody (cutoff : ℕ) (pairs : Map) (bytes : Bytes) : Type 0 where
  pub is_map : IsMap pairs
  pub cutoff_is_low : cutoff ≤ height (whole_leaves (keys_of pairs))
  pub bytes_are : bytes ≡ body_of cutoff pairs

abbrev pub cutoff_read : Bytes → ℕ
cutoff_read bytes = cutoff_in (image_part bytes)

abbrev pub BodyWasWrittenSo : Type 0
BodyWasWrittenSo = (bytes : Bytes) → IsBytes bytes → body_fault bytes ≡ None → IsBody (cutoff_read bytes) (map_in bytes) bytes

-- what is read of a body
pub record IsReadAs (cutoff : ℕ) (pairs : Map) (bytes : Bytes) : Type 0 where
  pub bytes_are : IsBytes bytes
  pub no_fault : body_fault bytes ≡ None
  pub map_is : map_in bytes ≡ pairs
  pub cutoff_is : cutoff_read bytes ≡ cutoff

abbrev pub BodyIsReadAgain : Type 0
BodyIsReadAgain = (cutoff : ℕ) (pairs : Map) (bytes : Bytes) → IsBody cutoff pairs bytes → IsReadAs cutoff pairs bytes

-- the bytes are no body
abbrev pub IsNoBody : Bytes → Type 0
IsNoBody bytes = (cutoff : ℕ) (pairs : Map) → IsBody cutoff pairs bytes → ⊥

-- of any bytes it can be told whether they are a body
abbrev pub BodiesAreDecided : Type 0
BodiesAreDecided = (bytes : Bytes) → IsBytes bytes → IsNoBody bytes ⊎ ((cutoff : ℕ) × (pairs : Map) × IsBody cutoff pairs bytes)

-- no two maps have one body, nor one map with two cutoffs
abbrev pub BodyHasOneMap : Type 0
BodyHasOneMap =
    (cutoff other : ℕ) (pairs others : Map) (bytes : Bytes) → IsBody cutoff pairs bytes → IsBody other others bytes → (pairs ≡ others) × (cutoff ≡ other)

-- The trie of the image is that of the keys of the map. The key of each slot has the value that stands there, and another string
-- has none.
pub record HasValuesBySlots (bytes : Bytes) : Type 0 where
  pub leaves_are : leaves_in (image_part bytes) ≡ whole_leaves (keys_of (map_in bytes))
  pub as_many : length (slotted (keys_of (map_in bytes))) ≡ pair_count_in bytes
  pub here :
      (slot : ℕ) → slot < pair_count_in bytes
      → get (map_in bytes) (slice_index_or (slotted (keys_of (map_in bytes))) slot []) ≡ Some (slice_index_or (values_in bytes) slot [])
  pub elsewhere : (key : Bytes) → (Contains (keys_of (map_in bytes)) key → ⊥) → get (map_in bytes) key ≡ None

abbrev pub ValuesStandBySlots : Type 0
ValuesStandBySlots = (bytes : Bytes) → IsBytes bytes → body_fault bytes ≡ None → HasValuesBySlots bytes
