-- Entries by which the definitions are shown.
use Rattle.std.specs.Prelude.{ℕ, List, [], ◌∷◌, replicate, set, codes}
use Rattle.byte_fields.specs.declared.parts.Row.{Row}
use Rattle.map_model.specs.SortedMap.{Bytes}
use Rattle.entry_model.specs.Entries.{Entry, put_entry, del_entry}
use Rattle.block_model.specs.OldBlock.{old_block_bytes}
use Rattle.range_model.specs.Ranges.{DeletedRange, range_of}
use Rattle.block_model.specs.Index.{Index, index_bytes}

-- a with the value b
abbrev pub a_b : Entry
a_b = put_entry (codes "a") (codes "b")

-- ab, of which nothing is there
abbrev pub no_ab : Entry
no_ab = del_entry (codes "ab")

-- a key of one byte with a value of so many zero bytes
abbrev pub wide : ℕ → ℕ → Entry
wide key bytes = put_entry (key ∷ []) (replicate bytes 0)

-- both of them
abbrev pub a_and_ab : List Entry
a_and_ab = a_b ∷ no_ab ∷ []

-- the block of both, with another byte at a place
unfoldable pub broken : ℕ → ℕ → Bytes
broken place byte = set (old_block_bytes a_and_ab) place byte

-- with another byte at two places
unfoldable pub broken_twice : ℕ → ℕ → ℕ → ℕ → Bytes
broken_twice place byte next other = set (broken place byte) next other

-- an index of two blocks from a on: one page up to b, two pages up to ba
abbrev pub two_blocks : Index
two_blocks = record {
  least = codes "a";
  rows = record { pages = 1; sum = 0x0102030405060708; last = codes "b" } ∷ record { pages = 2; sum = 7; last = codes "ba" } ∷ [];
  ranges = [];
}

-- its bytes, with another byte at a place
unfoldable pub broken_index : ℕ → ℕ → Bytes
broken_index place byte = set (index_bytes two_blocks) place byte

unfoldable pub broken_index_twice : ℕ → ℕ → ℕ → ℕ → Bytes
broken_index_twice place byte next other = set (broken_index place byte) next other

-- an index of one block, of a alone, with ranges
abbrev pub ranges_of_a : List DeletedRange → Index
ranges_of_a ranges = record { least = codes "a"; rows = record { pages = 1; sum = 7; last = codes "a" } ∷ []; ranges = ranges }

abbrev pub a_to_c : DeletedRange
a_to_c = range_of (codes "a") (codes "c")

abbrev pub d_to_e : DeletedRange
d_to_e = range_of (codes "d") (codes "e")

-- the index with the first of these, and with both
unfoldable pub one_range : Bytes
one_range = index_bytes (ranges_of_a (a_to_c ∷ []))

unfoldable pub two_ranges : Bytes
two_ranges = index_bytes (ranges_of_a (a_to_c ∷ d_to_e ∷ []))

-- a table from page 204 on: five pages of blocks, two of the index, three of the filter
abbrev pub ten_pages : Row
ten_pages = record {
  level = 1;
  first_page = 204;
  data_pages = 5;
  index_pages = 2;
  filter_pages = 3;
  entries = 900;
  index_len = 4097;
  filter_len = 12288;
  index_sum = 7;
  filter_sum = 9;
  hash_bits = 0;
  real_bits = 0;
  ratio = 64;
}
