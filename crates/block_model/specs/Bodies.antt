-- The bytes of the entries of a block: each spells of its key only what it has beyond the key before.
use Rattle.std.specs.Prelude.{ℕ, suc, ◌+◌, ◌-◌, List, [], ◌∷◌, ◌++◌, length, drop, if◌then◌else◌}
use Rattle.byteorder.specs.Endian.{little_bytes}
use Rattle.map_model.specs.SortedMap.{Bytes}
use Rattle.entry_model.specs.Entries.{Entry, bytes_of, kind_of}
use Rattle.block_model.specs.Formats.{begins_anew, wants_shared}

-- an entry whose key has so many bytes of the key before: its kind, that number, the lengths of its rest and of its value,
-- its rest and its value
abbrev pub entry_bytes : ℕ → Entry → Bytes
entry_bytes shared entry =
    kind_of entry.value
    ∷ (little_bytes 2 shared
    ++ (little_bytes 2 (length entry.key - shared)
    ++ (little_bytes 4 (length (bytes_of entry.value)) ++ (drop shared entry.key ++ bytes_of entry.value))))

-- entries one after the other, the first of them entry i, after a key
unfoldable pub entries_bytes : ℕ → Bytes → List Entry → Bytes
entries_bytes i before [] = []
entries_bytes i before (entry ∷ later) = entry_bytes (wants_shared i before entry.key) entry ++ entries_bytes (suc i) entry.key later

-- the places of those of them that are listed, where the first stands at a place
unfoldable pub listed_places : ℕ → ℕ → Bytes → List Entry → List ℕ
listed_places i place before [] = []
listed_places i place before (entry ∷ later) =
    let others = listed_places (suc i) (place + length (entry_bytes (wants_shared i before entry.key) entry)) entry.key later in
    if begins_anew i then place ∷ others else others
