-- What is read of bytes that begin with the body of an entry.
use Rattle.std.specs.Prelude.{ℕ, ◌+◌, ◌==◌, take, drop, slice_index, Some, None, if◌then◌else◌}
use Rattle.byteorder.specs.Endian.{little_number}
use Rattle.map_model.specs.SortedMap.{Bytes}
use Rattle.entry_model.specs.Entries.{Entry, entry_head_bytes, body_length}

abbrev pub kind_in : Bytes → ℕ
kind_in rest = slice_index rest 0

abbrev pub key_length_in : Bytes → ℕ
key_length_in rest = little_number 2 (drop 1 rest)

abbrev pub value_length_in : Bytes → ℕ
value_length_in rest = little_number 4 (drop 3 rest)

-- the bytes that the body takes
unfoldable pub width_in : Bytes → ℕ
width_in rest = body_length (key_length_in rest) (value_length_in rest)

unfoldable pub key_in : Bytes → Bytes
key_in rest = take (key_length_in rest) (drop entry_head_bytes rest)

unfoldable pub entry_in : Bytes → Entry
entry_in rest = record {
  key = key_in rest;
  value = if kind_in rest == 1 then Some (take (value_length_in rest) (drop (entry_head_bytes + key_length_in rest) rest)) else None;
}
