-- The first rule that the bytes of a block of either format break, and where; and the entries of a block that breaks none.
use Rattle.std.specs.Prelude.{ℕ, zero, suc, ◌+◌, ◌/◌, ◌*◌, nat_lt, ◌==◌, Bool, false, not, ◌&&◌, ◌||◌, List, [], length, take, drop, slice_index, position, Option, None}
use Rattle.std.specs.Option.{option_map, option_or}
use Rattle.byteorder.specs.Endian.{little_number}
use Rattle.key_base.specs.Limits.{is_no_key_length, restart_entries}
use Rattle.key_base.specs.ByteOrder.{is_before}
use Rattle.map_model.specs.SortedMap.{Bytes}
use Rattle.entry_model.specs.Entries.{Entry}
use Rattle.entry_model.specs.Reading.{kind_in}
use Rattle.byte_fields.specs.Faults.{Fault, fault, refuse}
use Rattle.block_model.specs.Formats.{Format, Old, Prefixed, begins_anew, entries_by, format_byte, format_in, entry_head_by, key_by, list_length, listed_in, most_value, rest_length_in, shared_in, value_length_by, wants_shared, width_by}
use Rattle.block_model.specs.Pages.{page_bytes, pages_for}

-- ---- the header

-- the length that is used
abbrev pub used_in : Bytes → ℕ
used_in bytes = little_number 4 bytes

abbrev pub count_in : Bytes → ℕ
count_in bytes = slice_index bytes 4

-- ---- an entry

-- neither a value nor a tombstone, or a tombstone with a value
abbrev pub has_wrong_kind : Format → Bytes → Bool
has_wrong_kind f rest = not (kind_in rest == 1) && (not (kind_in rest == 2) || nat_lt 0 (value_length_by f rest))

-- it shares another number of bytes with the key before than it has to
abbrev pub shares_otherwise : Format → ℕ → Bytes → Bytes → Bool
shares_otherwise Old i before rest = false
shares_otherwise Prefixed i before rest = not (shared_in Prefixed rest == wants_shared i before (key_by Prefixed before rest))

-- The first rule that entry i, at a place, breaks, by the bytes from there to the length and the key before, [] for the first
-- one. 3: it runs past the length, tried on the bytes before its key and then on the whole; 4: the kind; 5: the lengths;
-- 10: how much it shares; 6: its key is not above the one before.
unfoldable pub entry_fault_by : Format → ℕ → ℕ → Bytes → Bytes → Option Fault
entry_fault_by f i place before rest =
    refuse (nat_lt (length rest) (entry_head_by f)) place 3
    (refuse (has_wrong_kind f rest) place 4
    (refuse (is_no_key_length (shared_in f rest + rest_length_in f rest) || nat_lt (most_value f) (value_length_by f rest)) place 5
    (refuse (nat_lt (length rest) (width_by f rest)) place 3
    (refuse (shares_otherwise f i before rest) place 10
    (refuse (not (is_before before (key_by f before rest))) place 6
    None)))))

-- ---- entries, one after the other

-- the list has another number for entry i than its place
abbrev pub is_listed_elsewhere : Format → Bytes → ℕ → ℕ → Bool
is_listed_elsewhere Old bytes i place = false
is_listed_elsewhere Prefixed bytes i place = begins_anew i && not (listed_in bytes (i / restart_entries) == place)

-- entry by entry, each after its number in the list, which is 9; after the last, 7: bytes are left before the length
unfoldable pub entries_fault_by : Format → Bytes → ℕ → ℕ → ℕ → Bytes → Bytes → Option Fault
entries_fault_by f bytes i zero place before rest = refuse (nat_lt 0 (length rest)) place 7 None
entries_fault_by f bytes i (suc more) place before rest =
    refuse (is_listed_elsewhere f bytes i place) (8 + 2 * (i / restart_entries)) 9
    (option_or (entry_fault_by f i place before rest)
    (entries_fault_by f bytes (suc i) more (place + width_by f rest) (key_by f before rest) (drop (width_by f rest) rest)))

-- ---- the block

-- the header, an entry with a key of one byte, and in the new format the list and the longer head
abbrev pub least_used : Format → ℕ
least_used Old = 16
least_used Prefixed = 20

abbrev pub list_runs_past : Format → Bytes → Bool
list_runs_past Old bytes = false
list_runs_past Prefixed bytes = nat_lt (used_in bytes) (8 + list_length Prefixed (count_in bytes))

-- 1: fewer than eight bytes, a length that is too small, or other pages than those that the length takes; 2: no entry, or
-- several in more than a page; the byte of the format; a byte that must be 0; 9: the list runs past the length
unfoldable pub header_fault_by : Format → Bytes → Option Fault
header_fault_by f bytes =
    refuse (nat_lt (length bytes) 8 || nat_lt (used_in bytes) (least_used f) || not (length bytes == page_bytes * pages_for (used_in bytes))) 0 1
    (refuse (count_in bytes == 0 || (nat_lt page_bytes (used_in bytes) && nat_lt 1 (count_in bytes))) 4 2
    (refuse (not (slice_index bytes 5 == format_byte f)) 5 2
    (refuse (not (slice_index bytes 6 == 0)) 6 2
    (refuse (not (slice_index bytes 7 == 0)) 7 2
    (refuse (list_runs_past f bytes) 8 9
    None)))))

-- where the entries begin: after the header and the list
abbrev pub entries_place : Format → Bytes → ℕ
entries_place f bytes = 8 + list_length f (count_in bytes)

-- from there to the length
unfoldable pub entries_part_by : Format → Bytes → Bytes
entries_part_by f bytes = drop (entries_place f bytes) (take (used_in bytes) bytes)

-- 8: a byte after the length is not 0
unfoldable pub tail_fault : Bytes → Option Fault
tail_fault bytes = option_map (λ k. fault (used_in bytes + k) 8) (position (λ b. not (b == 0)) (drop (used_in bytes) bytes))

unfoldable pub block_fault_by : Format → Bytes → Option Fault
block_fault_by f bytes =
    option_or (header_fault_by f bytes)
    (option_or (entries_fault_by f bytes 0 (count_in bytes) (entries_place f bytes) [] (entries_part_by f bytes)) (tail_fault bytes))

unfoldable pub block_in_by : Format → Bytes → List Entry
block_in_by f bytes = entries_by f (count_in bytes) [] (entries_part_by f bytes)

-- the first rule that bytes break, by the format that they name, and where
abbrev pub block_fault : Bytes → Option Fault
block_fault bytes = block_fault_by (format_in bytes) bytes

-- the entries of a block that breaks none
abbrev pub block_in : Bytes → List Entry
block_in bytes = block_in_by (format_in bytes) bytes
