-- Entries, the map that they make in the order of writing, and their bytes.
use Rattle.std.specs.Prelude.{◌≤◌, ℕ, ◌+◌, ◌-◌, List, [], ◌∷◌, ◌++◌, length, fold, map, flat_map, Option, Some, None, if◌then◌else◌, bytes_eq}
use Rattle.std.specs.Option.{option_or}
use Rattle.byteorder.specs.Endian.{little_bytes}
pub use Rattle.key_base.specs.Limits.{entry_head_bytes}
use Rattle.key_base.specs.Limits.{max_key_bytes, max_value_bytes, max_logged_value_bytes, log_bytes}
use Rattle.byte_fields.specs.Spelling.{IsBytes}
use Rattle.map_model.specs.SortedMap.{Bytes, Map, put, del}

-- a key with its value, or without: then it is a tombstone
pub record Entry : Type 0 where
  pub key : Bytes
  pub value : Option Bytes

abbrev pub entry_of : Bytes → Option Bytes → Entry
entry_of key value = record { key = key; value = value }

abbrev pub put_entry : Bytes → Bytes → Entry
put_entry key value = record { key = key; value = Some value }

abbrev pub del_entry : Bytes → Entry
del_entry key = record { key = key; value = None }

abbrev pub keys_of : List Entry → List Bytes
keys_of entries = map (λ (e : Entry). e.key) entries

-- the key of the first entry, and of the last
abbrev pub first_key : List Entry → Bytes
first_key [] = []
first_key (entry ∷ later) = entry.key

abbrev pub last_key : List Entry → Bytes
last_key [] = []
last_key (entry ∷ []) = entry.key
last_key (entry ∷ next ∷ later) = last_key (next ∷ later)

abbrev pub change_by : Map → Bytes → Option Bytes → Map
change_by map key (Some value) = put map key value
change_by map key None = del map key

abbrev pub changed : Map → Entry → Map
changed map entry = change_by map entry.key entry.value

-- the map that the entries make, the first of them first
abbrev pub map_of : List Entry → Map
map_of entries = fold changed [] entries

-- what the last entry of the key says, where there is one
abbrev pub newest : List Entry → Bytes → Option (Option Bytes)
newest [] key = None
newest (entry ∷ later) key = option_or (newest later key) (if bytes_eq entry.key key then Some entry.value else None)

-- the value, where an entry is there and is no tombstone
abbrev pub live : Option (Option Bytes) → Option Bytes
live None = None
live (Some value) = value

abbrev pub kind_of : Option Bytes → ℕ
kind_of (Some value) = 1
kind_of None = 2

abbrev pub bytes_of : Option Bytes → Bytes
bytes_of (Some value) = value
bytes_of None = []

-- a key of one byte or more, and key and value within their limits
pub record IsEntry (entry : Entry) : Type 0 where
  pub some_key : 1 ≤ length entry.key
  pub short_key : length entry.key ≤ max_key_bytes
  pub short_value : length (bytes_of entry.value) ≤ max_value_bytes
  pub key_bytes : IsBytes entry.key
  pub value_bytes : IsBytes (bytes_of entry.value)

-- one whose value the log takes, and a block of the first format
pub record IsLogged (entry : Entry) : Type 0 where
  pub sound : IsEntry entry
  pub short : length (bytes_of entry.value) ≤ max_logged_value_bytes

-- ---- bytes

-- what follows a record's gate: kind, lengths of key and value, key, value
abbrev pub body : Entry → Bytes
body entry =
    kind_of entry.value ∷ (little_bytes 2 (length entry.key) ++ (little_bytes 4 (length (bytes_of entry.value)) ++ (entry.key ++ bytes_of entry.value)))

-- the bytes of a body whose key and value have so many
abbrev pub body_length : ℕ → ℕ → ℕ
body_length key value = entry_head_bytes + key + value

-- a record is an open gate and a body
abbrev pub record_bytes : Entry → Bytes
record_bytes entry = 1 ∷ body entry

-- the bytes of the log area before the next gate
unfoldable pub filled : List Entry → ℕ
filled entries = length (flat_map record_bytes entries)

-- the room that a record takes with its gate and the one behind it
abbrev pub need : Entry → ℕ
need entry = length (body entry) + 2

-- the room that is left in the log area
unfoldable pub gap : List Entry → ℕ
gap entries = log_bytes - filled entries
