-- What a builder of blocks with shared prefixes holds, and what it writes.
use Rattle.std.specs.Prelude.{◌≡◌, ◌≤◌, ℕ, ◌+◌, ◌-◌, ◌*◌, ◌/◌, Bool, ◌==◌, ◌||◌, List, [], ◌∷◌, ◌++◌, length, take, replicate, flat_map}
use Rattle.std.specs.List.{AllByRecursion}
use Rattle.byteorder.specs.Endian.{little_bytes}
use Rattle.byte_fields.specs.Fields.{fields}
use Rattle.map_model.specs.SortedMap.{Bytes}
use Rattle.entry_model.specs.Entries.{Entry, IsEntry}
use Rattle.block_model.specs.Bodies.{entries_bytes, listed_places}
use Rattle.block_model.specs.Formats.{Prefixed, entries_by, header_widths, places_length}
use Rattle.block_model.specs.Pages.{has_room, max_block_entries, page_bytes, pages_for}

-- an empty block takes each entry, and another one those that it has room for
abbrev pub takes : List Entry → Entry → Bool
takes block entry = length block == 0 || has_room block entry

-- the key before the next entry: that of the last of some entries, or the one before them all
abbrev pub key_before : Bytes → List Entry → Bytes
key_before before [] = before
key_before before (entry ∷ later) = key_before entry.key later

-- how many of so many entries are listed
abbrev pub listed_among : ℕ → ℕ
listed_among count = (count + 15) / 16

-- the bytes are those of so many entries, the last of which has this key, and these are the places of the listed ones among
-- them, counted from the first
pub record SpellsEntries (count : ℕ) (bytes key : Bytes) (places : List ℕ) : Type 0 where
  pub spelled : entries_bytes 0 [] (entries_by Prefixed count [] bytes) ≡ bytes
  pub each : AllByRecursion (IsEntry) (entries_by Prefixed count [] bytes)
  pub few : count ≤ max_block_entries
  pub last : key ≡ key_before [] (entries_by Prefixed count [] bytes)
  pub listed : take (listed_among count) places ≡ listed_places 0 0 [] (entries_by Prefixed count [] bytes)

-- two bytes for each place, counted from another one
unfoldable pub places_bytes : ℕ → List ℕ → Bytes
places_bytes from places = flat_map (λ p. little_bytes 2 (from + p)) places

-- a block of so many entries, which take these bytes, with these places
unfoldable pub laid : ℕ → Bytes → List ℕ → Bytes
laid count bytes places =
    let from = 8 + places_length count in
    let used = from + length bytes in
    fields header_widths (used ∷ count ∷ 2 ∷ []) ++ (places_bytes from places ++ (bytes ++ replicate (page_bytes * pages_for used - used) 0))
