-- The maps that a file can have, and the order of their values there.
use Rattle.std.specs.Prelude.{ℕ, ◌<◌, ◌≤◌, ◌^◌, List, [], map, length, sum_by}
use Rattle.std.specs.List.{All}
use Rattle.std.specs.Option.{option_map_or}
use Rattle.byte_fields.specs.Spelling.{IsBytes}
use Rattle.filter_model.specs.Image.{in_slots}
use Rattle.filter_model.specs.Keys.{IsKeyList}
pub use Rattle.map_model.specs.SortedMap.{Bytes, Map, get}
use Rattle.whole_keys.specs.Whole.{stubs, whole_leaves}

-- the most pairs of a map
abbrev pub max_map_pairs : ℕ
max_map_pairs = 1000000

abbrev pub keys_of : Map → List Bytes
keys_of pairs = map (λ (pair : Bytes × Bytes). pair.0) pairs

-- the bytes of all values
abbrev pub value_bytes : Map → ℕ
value_bytes pairs = sum_by (λ (pair : Bytes × Bytes). length pair.1) pairs

-- a pair or more, a million at most; keys as a filter's are, and values that have together fewer than 2^64 bytes
pub record IsMap (pairs : Map) : Type 0 where
  pub keys : IsKeyList (keys_of pairs)
  pub few : length pairs ≤ max_map_pairs
  pub values : All (λ (pair : Bytes × Bytes). IsBytes pair.1) pairs
  pub short : value_bytes pairs < 2 ^ 64

-- the value under a key, and no byte where there is none
abbrev pub value_of : Map → Bytes → Bytes
value_of pairs key = option_map_or (λ (value : Bytes). value) (get pairs key) []

-- keys with values, in the order of the keys
abbrev pub paired : (Bytes → Bytes) → List Bytes → Map
paired value keys = map (λ (key : Bytes). (key, value key)) keys

-- the keys in the order of their slots in the trie
unfoldable pub slotted : List Bytes → List Bytes
slotted keys = stubs (in_slots (whole_leaves keys))
