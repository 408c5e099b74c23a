-- Parts of a store by which findings are shown, on a device of zeros.
use Rattle.std.specs.Prelude.{ℕ, [], ◌∷◌}
use Rattle.byte_fields.specs.declared.parts.Row.{Row}
use Rattle.disk_trait.specs.Image.{Image, overwritten}
use Rattle.map_model.specs.SortedMap.{Bytes}
use Rattle.block_model.specs.Index.{IndexRow}
use Rattle.manifest_model.specs.Examples.{formatted, table}
use Rattle.manifest_model.specs.Version.{body_bytes}

abbrev pub zeros : Image
zeros place = 0

-- the block of a with b and of a tombstone of ab in the first format, without the zeros to the end of its page, its sum, and
-- the row of an index
abbrev pub a_and_ab_bytes : Bytes
a_and_ab_bytes = 26 ∷ 0 ∷ 0 ∷ 0 ∷ 2 ∷ 0 ∷ 0 ∷ 0 ∷ 1 ∷ 1 ∷ 0 ∷ 1 ∷ 0 ∷ 0 ∷ 0 ∷ 0x61 ∷ 0x62 ∷ 2 ∷ 2 ∷ 0 ∷ 0 ∷ 0 ∷ 0 ∷ 0 ∷ 0x61 ∷ 0x62 ∷ []

abbrev pub a_and_ab_sum : ℕ
a_and_ab_sum = 0xC5E3CC62D056E6D2

abbrev pub up_to : ℕ → Bytes → IndexRow
up_to sum last = record { pages = 1; sum = sum; last = last }

-- that of c with d, as blocks are written
abbrev pub c_bytes : Bytes
c_bytes = 21 ∷ 0 ∷ 0 ∷ 0 ∷ 1 ∷ 2 ∷ 0 ∷ 0 ∷ 10 ∷ 0 ∷ 1 ∷ 0 ∷ 0 ∷ 1 ∷ 0 ∷ 1 ∷ 0 ∷ 0 ∷ 0 ∷ 0x63 ∷ 0x64 ∷ []

abbrev pub c_sum : ℕ
c_sum = 5012117060168271117

-- the block of a and ab at the first page of tables, and its index at the next one
abbrev pub index_bytes : Bytes
index_bytes = 0x53 ∷ 0x52 ∷ 0x46 ∷ 0x49 ∷ 1 ∷ 0 ∷ 0 ∷ 0 ∷ 1 ∷ 0 ∷ 0x61 ∷ 1 ∷ 0 ∷ 0 ∷ 0 ∷ 0xD2 ∷ 0xE6 ∷ 0x56 ∷ 0xD0 ∷ 0x62 ∷ 0xCC ∷ 0xE3 ∷ 0xC5 ∷ 2 ∷ 0 ∷ 0x61 ∷ 0x62 ∷ []

abbrev pub with_a_table : Image
with_a_table = overwritten (overwritten zeros 786432 a_and_ab_bytes) 790528 index_bytes

-- the row of that table, with a given number of entries; its filter is of 45 bytes
abbrev pub row_of : ℕ → Row
row_of entries = record (table 0 192) { entries = entries; index_sum = 15705594334158475928; filter_sum = 17814397539202711727 }

-- the index of a block whose one key is this byte
abbrev pub index_of_key : ℕ → Bytes
index_of_key key = 0x53 ∷ 0x52 ∷ 0x46 ∷ 0x49 ∷ 1 ∷ 0 ∷ 0 ∷ 0 ∷ 1 ∷ 0 ∷ key ∷ 1 ∷ 0 ∷ 0 ∷ 0 ∷ 7 ∷ 0 ∷ 0 ∷ 0 ∷ 0 ∷ 0 ∷ 0 ∷ 0 ∷ 1 ∷ 0 ∷ key ∷ []

-- three tables of level 1, of the keys c, b and a in this order, and their rows
abbrev pub with_three_tables : Image
with_three_tables = overwritten (overwritten (overwritten zeros 790528 (index_of_key 0x63)) 839680 (index_of_key 0x62)) 888832 (index_of_key 0x61)

abbrev pub row_at : ℕ → ℕ → Row
row_at first sum = record (table 1 first) { index_len = 26; index_sum = sum }

abbrev pub row_of_c : Row
row_of_c = row_at 192 9427406023404810342

abbrev pub row_of_b : Row
row_of_b = row_at 204 2799448773855867036

abbrev pub row_of_a : Row
row_of_a = row_at 216 3281305423683862978

-- two slots that are open, each with the version of a new store
abbrev pub open_slot : Bytes
open_slot = 1 ∷ 0 ∷ 0 ∷ 0 ∷ 0 ∷ 0 ∷ 0 ∷ 0 ∷ body_bytes 2 formatted

abbrev pub with_both_slots : Image
with_both_slots = overwritten (overwritten zeros 0 open_slot) 131072 open_slot
