-- Versions by which the definitions are shown.
use Rattle.std.specs.Prelude.{ℕ, List, [], ◌∷◌, set, Option, Some}
use Rattle.map_model.specs.SortedMap.{Bytes}
use Rattle.byte_fields.specs.declared.parts.Row.{Row}
use Rattle.byte_fields.specs.declared.parts.Damage.{Damage}
use Rattle.byte_fields.specs.declared.parts.Damage.TheVariants as damage
use Rattle.byte_fields.specs.declared.parts.Part.TheVariants as part
use Rattle.manifest_model.specs.Version.{Version, summed, prefix_bytes}
use Rattle.manifest_model.specs.Tables.{KeyRange}

-- a new store on 512 pages, with filters that keep no suffix bits
abbrev pub formatted : Version
formatted = record { hash_bits = 0; real_bits = 0; ratio = 64; pages = 512; epoch = 1; log_page = 64; rows = [] }

-- a table of four entries that takes three pages: one of a block, one of an index of 27 bytes, one of a filter of 45
abbrev pub table : ℕ → ℕ → Row
table level first = record {
  level = level;
  first_page = first;
  data_pages = 1;
  index_pages = 1;
  filter_pages = 1;
  entries = 4;
  index_len = 27;
  filter_len = 45;
  index_sum = 0x0102030405060708;
  filter_sum = 9;
  hash_bits = 0;
  real_bits = 0;
  ratio = 64;
}

-- one that says that it has none
abbrev pub table_of_none : ℕ → ℕ → Row
table_of_none level first = record (table level first) { entries = 0 }

-- a new store whose filters keep 4 bits of the hash and 3 bits of the key
abbrev pub formatted_mixed : Version
formatted_mixed = record formatted { hash_bits = 4; real_bits = 3; ratio = 16 }

-- a table that was built with 8 bits of the hash and 3 bits of the key
abbrev pub mixed_table : ℕ → ℕ → Row
mixed_table level first = record (table level first) { hash_bits = 8; real_bits = 3; ratio = 7 }

-- the store with these tables, at epoch 6
abbrev pub version_with : List Row → Version
version_with rows = record { hash_bits = 0; real_bits = 0; ratio = 64; pages = 512; epoch = 6; log_page = 128; rows = rows }

abbrev pub one_table : Version
one_table = version_with (table 1 204 ∷ [])

abbrev pub two_tables : Version
two_tables = version_with (table 0 192 ∷ table 1 204 ∷ [])

-- the store with that table in level 1, whose new tables get its settings too
abbrev pub one_as_new : Version
one_as_new = record (version_with (mixed_table 1 204 ∷ [])) { hash_bits = 8; real_bits = 3; ratio = 7 }

-- the body of that, in format 2, with another byte at a place, and its sum
unfoldable pub broken_body : ℕ → ℕ → Bytes
broken_body place byte = summed (set (prefix_bytes 2 one_table) place byte)

-- with another byte at two places
unfoldable pub twice_broken : ℕ → ℕ → ℕ → ℕ → Bytes
twice_broken place byte next other = summed (set (set (prefix_bytes 2 one_table) place byte) next other)

-- that of two tables
unfoldable pub twice_broken_rows : ℕ → ℕ → ℕ → ℕ → Bytes
twice_broken_rows place byte next other = summed (set (set (prefix_bytes 2 two_tables) place byte) next other)

-- and that of one in format 1, with another byte at a place
unfoldable pub broken_in_format_1 : ℕ → ℕ → Bytes
broken_in_format_1 place byte = summed (set (prefix_bytes 1 one_table) place byte)

abbrev pub keys_at : ℕ → ℕ → ℕ → KeyRange
keys_at level least greatest = record { level = level; least = least ∷ []; greatest = greatest ∷ []; reach = [] }

-- with ranges up to this key
abbrev pub reaching : KeyRange → ℕ → KeyRange
reaching range end = record range { reach = end ∷ [] }

-- damage of the manifest at a byte of the device
abbrev pub shape : ℕ → ℕ → Option Damage
shape place rule = Some (damage.Shape part.Manifest place rule)

abbrev pub sums : ℕ → ℕ → ℕ → Option Damage
sums place kept seen = Some (damage.Sum part.Manifest place kept seen)
