-- What is read from the bytes of a block of the first format, as it was before there was another one, and the first rule that
-- they break. It says the same as the rules of either format.
use Rattle.std.specs.Prelude.{ℕ, zero, suc, ◌+◌, ◌*◌, nat_lt, ◌==◌, Bool, not, ◌&&◌, ◌||◌, List, [], ◌∷◌, length, take, drop, slice_index, Option, None}
use Rattle.std.specs.Option.{option_or}
use Rattle.key_base.specs.ByteOrder.{is_before}
use Rattle.key_base.specs.Limits.{is_no_key_length, max_logged_value_bytes}
use Rattle.map_model.specs.SortedMap.{Bytes}
use Rattle.entry_model.specs.Entries.{Entry, entry_head_bytes}
use Rattle.entry_model.specs.Reading.{kind_in, key_length_in, value_length_in, width_in, key_in, entry_in}
use Rattle.byte_fields.specs.Faults.{Fault, refuse}
use Rattle.block_model.specs.BlockReading.{used_in, count_in, tail_fault}
use Rattle.block_model.specs.Order.{is_any}
use Rattle.block_model.specs.Pages.{page_bytes, pages_for}

-- ---- an entry, of the bytes that begin with it

-- neither a value nor a tombstone, or a tombstone with a value
abbrev pub has_no_kind : Bytes → Bool
has_no_kind rest = not (kind_in rest == 1) && (not (kind_in rest == 2) || nat_lt 0 (value_length_in rest))

-- The first rule that the entry at a place breaks, by the bytes from there to the length. 3: it runs past the length, tried
-- on the seven first bytes and then on the whole; 4: the kind; 5: the lengths; 6: the key does not pass the test.
unfoldable pub old_entry_fault : ℕ → (Bytes → Bool) → Bytes → Option Fault
old_entry_fault place test rest =
    refuse (nat_lt (length rest) entry_head_bytes) place 3
    (refuse (has_no_kind rest) place 4
    (refuse (is_no_key_length (key_length_in rest) || nat_lt max_logged_value_bytes (value_length_in rest)) place 5
    (refuse (nat_lt (length rest) (width_in rest)) place 3
    (refuse (not (test (key_in rest))) place 6
    None))))

-- ---- entries, one after the other

-- entry by entry; behind the last, 7: bytes are left before the length
unfoldable pub old_entries_fault : ℕ → ℕ → (Bytes → Bool) → Bytes → Option Fault
old_entries_fault zero place test rest = refuse (nat_lt 0 (length rest)) place 7 None
old_entries_fault (suc more) place test rest =
    option_or (old_entry_fault place test rest) (old_entries_fault more (place + width_in rest) (is_before (key_in rest)) (drop (width_in rest) rest))

unfoldable pub old_entries_in : ℕ → Bytes → List Entry
old_entries_in zero rest = []
old_entries_in (suc more) rest = entry_in rest ∷ old_entries_in more (drop (width_in rest) rest)

-- ---- the block

-- from the header to the length
unfoldable pub old_entries_part : Bytes → Bytes
old_entries_part bytes = drop 8 (take (used_in bytes) bytes)

-- 1: fewer than eight bytes, a length under 16, or other pages than those that the length takes; 2: no entry, or several
-- in more than a page; a byte that must be 0
unfoldable pub old_header_fault : Bytes → Option Fault
old_header_fault bytes =
    refuse (nat_lt (length bytes) 8 || nat_lt (used_in bytes) 16 || not (length bytes == page_bytes * pages_for (used_in bytes))) 0 1
    (refuse (count_in bytes == 0 || (nat_lt page_bytes (used_in bytes) && nat_lt 1 (count_in bytes))) 4 2
    (refuse (not (slice_index bytes 5 == 0)) 5 2
    (refuse (not (slice_index bytes 6 == 0)) 6 2
    (refuse (not (slice_index bytes 7 == 0)) 7 2
    None))))

-- the first rule that the bytes break, in the order of the rules, and where
unfoldable pub old_block_fault : Bytes → Option Fault
old_block_fault bytes =
    option_or (old_header_fault bytes) (option_or (old_entries_fault (count_in bytes) 8 is_any (old_entries_part bytes)) (tail_fault bytes))

-- the entries of a block that breaks none
unfoldable pub old_block_in : Bytes → List Entry
old_block_in bytes = old_entries_in (count_in bytes) (old_entries_part bytes)
