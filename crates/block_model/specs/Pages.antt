-- How the entries of a table are cut into blocks, and how many bytes and pages its blocks and its index take.
use Rattle.std.specs.Prelude.{ℕ, ◌+◌, ◌-◌, ◌*◌, ◌/◌, nat_le, nat_lt, ◌&&◌, Bool, false, List, [], ◌∷◌, ◌++◌, length, fold, replicate, sum_by, if◌then◌else◌}
pub use Rattle.key_base.specs.Limits.{max_block_entries, page_bytes}
pub use Rattle.entry_model.specs.Entries.{first_key, last_key}
use Rattle.entry_model.specs.Entries.{Entry}
use Rattle.range_model.specs.Ranges.{DeletedRange}
use Rattle.block_model.specs.Bodies.{entries_bytes}
use Rattle.block_model.specs.Formats.{places_length}

-- so many bytes in whole pages, rounded up
unfoldable pub pages_for : ℕ → ℕ
pages_for bytes = (bytes + (page_bytes - 1)) / page_bytes

-- zero bytes to the end of the last page
unfoldable pub padding : ℕ → List ℕ
padding bytes = replicate (page_bytes * pages_for bytes - bytes) 0

-- the bytes of a block that are used: its header of eight bytes, the places of its listed entries, and its entries
unfoldable pub block_length : List Entry → ℕ
block_length block = 8 + places_length (length block) + length (entries_bytes 0 [] block)

unfoldable pub block_pages : List Entry → ℕ
block_pages block = pages_for (block_length block)

-- an entry is added to a block where that stays within a page and within the most entries of a block
abbrev pub has_room : List Entry → Entry → Bool
has_room block entry = nat_le (block_length (block ++ (entry ∷ []))) page_bytes && nat_lt (length block) max_block_entries

-- the blocks with one entry more: in the last block where that has room, else in a new one
abbrev pub blocks_with : List (List Entry) → Entry → List (List Entry)
blocks_with [] entry = (entry ∷ []) ∷ []
blocks_with (block ∷ []) entry = if has_room block entry then (block ++ (entry ∷ [])) ∷ [] else block ∷ (entry ∷ []) ∷ []
blocks_with (block ∷ next ∷ more) entry = block ∷ blocks_with (next ∷ more) entry

-- whether the last of some blocks has room
abbrev pub last_has_room : List (List Entry) → Entry → Bool
last_has_room [] entry = false
last_has_room (block ∷ []) entry = has_room block entry
last_has_room (block ∷ next ∷ more) entry = last_has_room (next ∷ more) entry

-- the entries cut into blocks, one entry after the other; so an entry that needs more than a page stands alone
unfoldable pub blocks_of : List Entry → List (List Entry)
blocks_of entries = fold blocks_with [] entries

-- the pages of all blocks
unfoldable pub data_pages : List Entry → ℕ
data_pages entries = sum_by block_pages (blocks_of entries)

-- the bytes of the index: its head with the least key, and for each block its pages, its sum and its last key
unfoldable pub index_length : List Entry → ℕ
index_length entries = 10 + length (first_key entries) + sum_by (λ block. 14 + length (last_key block)) (blocks_of entries)

-- those of the index of entries with ranges: where there are ranges it has their number, and for each of them its two keys with
-- their lengths
abbrev pub index_length_with : List Entry → List DeletedRange → ℕ
index_length_with entries [] = index_length entries
index_length_with entries (range ∷ later) =
    index_length entries + (4 + sum_by (λ (r : DeletedRange). 4 + length r.lo + length r.hi) (range ∷ later))
