-- Laws of the entries: which map they make, what the newest of them say, and how long their bodies are.
use Rattle.std.specs.Prelude.{◌≡◌, List, [], ◌∷◌, ◌++◌, length}
use Rattle.map_model.specs.SortedMap.{Bytes, get, Rises}
use Rattle.entry_model.specs.Entries.{Entry, map_of, newest, live, body, body_length, bytes_of}
use Rattle.entry_model.specs.Newest.{KeysRise, with_entry, newest_entries, lookup}

-- the map of the entries has what the newest entry of each key says
pub record MapLaws : Type 0 where
  pub newest_counts : (entries : List Entry) (key : Bytes) → get (map_of entries) key ≡ live (newest entries key)
  pub rises : (entries : List Entry) → Rises (map_of entries)

-- The newest entries of some have rising keys and say of each key what the last of its entries says, and no other list
-- does so. An entry more is set in its place.
pub record NewestLaws : Type 0 where
  pub none : newest_entries [] ≡ []
  pub more : (entries : List Entry) (entry : Entry) → newest_entries (entries ++ entry ∷ []) ≡ with_entry (newest_entries entries) entry
  pub rises : (entries : List Entry) → KeysRise (newest_entries entries)
  pub says : (entries : List Entry) (key : Bytes) → lookup (newest_entries entries) key ≡ newest entries key
  pub alone : (entries others : List Entry) → KeysRise others → ((key : Bytes) → lookup others key ≡ newest entries key) → others ≡ newest_entries entries

-- an entry's body has the length of its key and of its value
abbrev pub BodyHasItsLength : Type 0
BodyHasItsLength = (entry : Entry) → length (body entry) ≡ body_length (length entry.key) (length (bytes_of entry.value))
