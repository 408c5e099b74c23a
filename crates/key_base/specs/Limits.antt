-- The limits of the store, each in its unit.
use Rattle.std.specs.Prelude.{ℕ, ◌^◌, Bool, ◌==◌, ◌||◌, nat_lt}

-- the bytes of the longest key; the shortest has one
abbrev pub max_key_bytes : ℕ
max_key_bytes = 1024

-- a key of no byte or of too many
abbrev pub is_no_key_length : ℕ → Bool
is_no_key_length bytes = bytes == 0 || nat_lt max_key_bytes bytes

-- the bytes of the longest bound of a range; the shortest has none
abbrev pub max_bound_bytes : ℕ
max_bound_bytes = 1024

-- the bytes of the longest value; the shortest has none
abbrev pub max_value_bytes : ℕ
max_value_bytes = 1048576

-- the bytes of the longest value that the log takes, and a block of the first format: a longer one goes into a table at once
abbrev pub max_logged_value_bytes : ℕ
max_logged_value_bytes = 65536

-- the bytes of the longest line, without its newline
abbrev pub max_line_bytes : ℕ
max_line_bytes = 2100000

-- the bytes of input that one run takes at most
abbrev pub max_input_bytes : ℕ
max_input_bytes = 2 ^ 40

-- the bytes that one read of the input asks for
abbrev pub piece_bytes : ℕ
piece_bytes = 65536

-- the most pairs that one range may ask for
abbrev pub max_range_pairs : ℕ
max_range_pairs = 1000000

-- the bytes of a page
abbrev pub page_bytes : ℕ
page_bytes = 4096

-- the pages of the smallest device, and of the largest
abbrev pub min_device_pages : ℕ
min_device_pages = 512

abbrev pub max_device_pages : ℕ
max_device_pages = 16777216

-- the pages of a log area, of which there are two, and its bytes
abbrev pub log_pages : ℕ
log_pages = 64

abbrev pub log_bytes : ℕ
log_bytes = 262144

-- the bytes of a slot of the manifest, of which there are two at the beginning of the device
abbrev pub slot_bytes : ℕ
slot_bytes = 131072

-- the first page of the tables: the slots and the log areas stand before it
abbrev pub first_table_page : ℕ
first_table_page = 192

-- the most entries of a block; the fewest is one
abbrev pub max_block_entries : ℕ
max_block_entries = 255

-- from one listed entry of a block to the next: blocks of the second format list the first entry and each sixteenth after it
abbrev pub restart_entries : ℕ
restart_entries = 16

-- the bytes of an entry before its key and its value, in the log and in a block of the first format: its kind and their lengths.
-- In the second format it has two more, of what its key shares with the one before.
abbrev pub entry_head_bytes : ℕ
entry_head_bytes = 7

-- the pages of the largest block: one entry, of the longest key and of the longest value
abbrev pub max_block_pages : ℕ
max_block_pages = 257

-- the last number of an epoch
unfoldable pub last_epoch : ℕ
last_epoch = 18446744073709551615

-- the most tables of a version
abbrev pub max_tables : ℕ
max_tables = 1024

-- the last level of tables; the first is 0
abbrev pub max_level : ℕ
max_level = 6

-- the data pages at which a merge closes an output table
abbrev pub merge_data_pages : ℕ
merge_data_pages = 1024

-- the most hash bits of a leaf, and the most real bits; the fewest are none
abbrev pub max_hash_bits : ℕ
max_hash_bits = 32

abbrev pub max_real_bits : ℕ
max_real_bits = 32

-- the greatest ratio of sparse to dense bits
abbrev pub max_ratio : ℕ
max_ratio = 65535
