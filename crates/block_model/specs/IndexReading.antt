-- What is read from the bytes of an index, and the first rule that they break.
use Rattle.std.specs.Prelude.{ℕ, zero, suc, ◌+◌, nat_lt, ◌==◌, Bool, true, false, not, ◌||◌, List, [], ◌∷◌, length, take, drop, Option, None}
use Rattle.std.specs.Option.{option_or}
use Rattle.byteorder.specs.Endian.{little_number}
use Rattle.map_model.specs.SortedMap.{Bytes}
use Rattle.key_base.specs.Limits.{is_no_key_length, max_block_pages}
use Rattle.byte_fields.specs.Faults.{Fault, refuse}
use Rattle.range_model.specs.Ranges.{DeletedRange, range_of}
use Rattle.block_model.specs.Index.{Index, IndexRow, index_magic, ranges_magic, row_pages}
use Rattle.key_base.specs.ByteOrder.{is_before}
use Rattle.block_model.specs.Order.{is_from}

-- ---- the head

abbrev pub rows_count_in : Bytes → ℕ
rows_count_in bytes = little_number 4 (drop 4 bytes)

abbrev pub least_length_in : Bytes → ℕ
least_length_in bytes = little_number 2 (drop 8 bytes)

unfoldable pub head_width_in : Bytes → ℕ
head_width_in bytes = 10 + least_length_in bytes

unfoldable pub least_in : Bytes → Bytes
least_in bytes = take (least_length_in bytes) (drop 10 bytes)

-- whether ranges come after the rows
abbrev pub has_ranges_in : Bytes → Bool
has_ranges_in bytes = little_number 4 bytes == ranges_magic

abbrev pub is_magic : ℕ → Bool
is_magic number = number == index_magic || number == ranges_magic

-- 1: a field runs past the end; 2: the magic; 3: no blocks; 4: the least key's length
unfoldable pub index_head_fault : Bytes → Option Fault
index_head_fault bytes =
    refuse (nat_lt (length bytes) 10 || nat_lt (length bytes) (head_width_in bytes)) (length bytes) 1
    (refuse (not (is_magic (little_number 4 bytes))) 0 2
    (refuse (rows_count_in bytes == 0) 4 3
    (refuse (is_no_key_length (least_length_in bytes)) 8 4
    None)))

-- ---- a row, of the bytes that begin with it

abbrev pub pages_in : Bytes → ℕ
pages_in rest = little_number 4 rest

abbrev pub sum_in : Bytes → ℕ
sum_in rest = little_number 8 (drop 4 rest)

abbrev pub last_length_in : Bytes → ℕ
last_length_in rest = little_number 2 (drop 12 rest)

unfoldable pub row_width_in : Bytes → ℕ
row_width_in rest = 14 + last_length_in rest

unfoldable pub last_in : Bytes → Bytes
last_in rest = take (last_length_in rest) (drop 14 rest)

unfoldable pub row_in : Bytes → IndexRow
row_in rest = record { pages = pages_in rest; sum = sum_in rest; last = last_in rest }

-- 1: a field runs past the end; 4: the last key's length; 5: it does not pass the test; 6: the pages
unfoldable pub row_fault : ℕ → (Bytes → Bool) → Bytes → Option Fault
row_fault place test rest =
    refuse (nat_lt (length rest) 14 || nat_lt (length rest) (row_width_in rest)) (place + length rest) 1
    (refuse (is_no_key_length (last_length_in rest)) (place + 12) 4
    (refuse (not (test (last_in rest))) (place + 14) 5
    (refuse (pages_in rest == 0 || nat_lt max_block_pages (pages_in rest)) place 6
    None)))

-- row by row
unfoldable pub rows_fault : ℕ → ℕ → (Bytes → Bool) → Bytes → Option Fault
rows_fault zero place test rest = None
rows_fault (suc more) place test rest =
    option_or (row_fault place test rest) (rows_fault more (place + row_width_in rest) (is_before (last_in rest)) (drop (row_width_in rest) rest))

unfoldable pub rows_in : ℕ → Bytes → List IndexRow
rows_in zero rest = []
rows_in (suc more) rest = row_in rest ∷ rows_in more (drop (row_width_in rest) rest)

unfoldable pub rows_width_in : ℕ → Bytes → ℕ
rows_width_in zero rest = 0
rows_width_in (suc more) rest = row_width_in rest + rows_width_in more (drop (row_width_in rest) rest)

-- ---- a range, of the bytes that begin with it: its two bounds, each after its length

abbrev pub bound_length_in : Bytes → ℕ
bound_length_in rest = little_number 2 rest

abbrev pub bound_width_in : Bytes → ℕ
bound_width_in rest = 2 + bound_length_in rest

unfoldable pub bound_in : Bytes → Bytes
bound_in rest = take (bound_length_in rest) (drop 2 rest)

abbrev pub hi_part : Bytes → Bytes
hi_part rest = drop (bound_width_in rest) rest

unfoldable pub range_width_in : Bytes → ℕ
range_width_in rest = bound_width_in rest + bound_width_in (hi_part rest)

unfoldable pub range_in : Bytes → DeletedRange
range_in rest = range_of (bound_in rest) (bound_in (hi_part rest))

-- the bounds are crossed or equal, or the lower one is not above the end of the range before
abbrev pub is_out_of_order : Bytes → DeletedRange → Bool
is_out_of_order before range = not (is_before before range.lo) || not (is_before range.lo range.hi)

-- The end of the range before is [] for the first one. 1: a field runs past the end; 10: the length of a bound, or the order of
-- the bounds
unfoldable pub range_fault : ℕ → Bytes → Bytes → Option Fault
range_fault place before rest =
    refuse (nat_lt (length rest) (range_width_in rest)) (place + length rest) 1
    (refuse (is_no_key_length (bound_length_in rest)) place 10
    (refuse (is_no_key_length (bound_length_in (hi_part rest))) (place + bound_width_in rest) 10
    (refuse (is_out_of_order before (range_in rest)) (place + 2) 10
    None)))

-- range by range; after the last, 7: bytes are left
unfoldable pub ranges_fault : ℕ → ℕ → Bytes → Bytes → Option Fault
ranges_fault zero place before rest = refuse (nat_lt 0 (length rest)) place 7 None
ranges_fault (suc more) place before rest =
    option_or (range_fault place before rest) (ranges_fault more (place + range_width_in rest) (range_in rest).hi (drop (range_width_in rest) rest))

unfoldable pub ranges_in : ℕ → Bytes → List DeletedRange
ranges_in zero rest = []
ranges_in (suc more) rest = range_in rest ∷ ranges_in more (drop (range_width_in rest) rest)

-- ---- what comes after the rows: how many ranges, and these, where the magic says so; else nothing

abbrev pub ranges_count_in : Bytes → ℕ
ranges_count_in rest = little_number 4 rest

-- 1: the number runs past the end; 9: it is 0
unfoldable pub all_ranges_fault : Bool → ℕ → Bytes → Option Fault
all_ranges_fault false place rest = ranges_fault 0 place [] rest
all_ranges_fault true place rest =
    refuse (nat_lt (length rest) 4) (place + length rest) 1
    (refuse (ranges_count_in rest == 0) place 9
    (ranges_fault (ranges_count_in rest) (place + 4) [] (drop 4 rest)))

unfoldable pub all_ranges_in : Bool → Bytes → List DeletedRange
all_ranges_in false rest = []
all_ranges_in true rest = ranges_in (ranges_count_in rest) (drop 4 rest)

-- ---- the index

-- what comes after the head, and where the rows end
abbrev pub rows_part : Bytes → Bytes
rows_part bytes = drop (head_width_in bytes) bytes

unfoldable pub rows_end_in : Bytes → ℕ
rows_end_in bytes = head_width_in bytes + rows_width_in (rows_count_in bytes) (rows_part bytes)

unfoldable pub index_in : Bytes → Index
index_in bytes = record {
  least = least_in bytes;
  rows = rows_in (rows_count_in bytes) (rows_part bytes);
  ranges = all_ranges_in (has_ranges_in bytes) (drop (rows_end_in bytes) bytes);
}

-- 8: the pages of the blocks are not so many as the table has
unfoldable pub pages_fault : ℕ → Bytes → Option Fault
pages_fault pages bytes = refuse (not (row_pages (index_in bytes).rows == pages)) 4 8 None

-- the first rule that the bytes break, in the order of the rules, and where; the table has so many pages of blocks
unfoldable pub index_fault : ℕ → Bytes → Option Fault
index_fault pages bytes =
    option_or (index_head_fault bytes)
    (option_or (rows_fault (rows_count_in bytes) (head_width_in bytes) (is_from (least_in bytes)) (rows_part bytes))
    (option_or (all_ranges_fault (has_ranges_in bytes) (rows_end_in bytes) (drop (rows_end_in bytes) bytes))
    (pages_fault pages bytes)))
