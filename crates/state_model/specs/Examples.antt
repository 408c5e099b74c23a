-- States and requests by which the definitions are shown.
use Rattle.std.specs.Prelude.{ℕ, List, [], ◌∷◌, length, fold, map, replicate, Option, Some, None, codes}
use Rattle.filter_api.specs.declared.settings.Settings.{Settings}
use Rattle.map_model.specs.SortedMap.{Bytes}
use Rattle.entry_model.specs.Entries.{del_entry, put_entry}
use Rattle.block_model.specs.Pages.{first_key}
use Rattle.range_model.specs.Ranges.{range_of}
use Rattle.range_model.specs.Sources.{Change, Sets, Clears}
use Rattle.state_model.specs.Changes.{compacted, flushed, written}
use Rattle.state_model.specs.State.{State, Job, new_state}
use Rattle.table_model.specs.Tables.{FilterBytes, Table}
use Rattle.state_model.specs.Merges.{Plan}
use Rattle.state_model.specs.Play.{played}
use Rattle.state_model.specs.Resets.{with_settings, with_pages}
use Rattle.state_model.specs.Steps.{done_or_refused}
use Rattle.line_model.specs.Requests.{Request, Put, Del, Flush, Compact}

-- no suffix bits, and the ratio of a store that names none
abbrev pub base : Settings
base = record { hash_bits = 0; real_bits = 0; ratio = 64 }

-- eight hash bits
abbrev pub hashed : Settings
hashed = record { hash_bits = 8; real_bits = 0; ratio = 64 }

-- a new store of 512 pages
abbrev pub small_store : State
small_store = new_state base 512

-- a filter in one byte: its pages are all that the rows ask of it
abbrev pub one_byte : FilterBytes
one_byte settings keys = 0 ∷ []

-- a key of one byte
abbrev pub key : ℕ → Bytes
key n = n ∷ []

-- a put of a key of one byte with a value of one byte
abbrev pub put_one : ℕ → Request
put_one n = Put (key n) (1 ∷ [])

-- a put of a key of one byte with a value of one byte more than the log takes
abbrev pub long_put : ℕ → Request
long_put n = Put (key n) (replicate 65537 0)

-- four tables in level 0, the newest first, of one key each
abbrev pub four_tables : List Request
four_tables = put_one 0x61 ∷ Flush ∷ put_one 0x62 ∷ Flush ∷ put_one 0x63 ∷ Flush ∷ put_one 0x64 ∷ Flush ∷ []

-- three tables: keys 1 to 4, keys 5 to 8, and two keys with two tombstones
abbrev pub three_tables : List Request
three_tables =
    put_one 1 ∷ put_one 2 ∷ put_one 3 ∷ put_one 4 ∷ Flush ∷ put_one 5 ∷ put_one 6 ∷ put_one 7 ∷ put_one 8 ∷ Flush
    ∷ put_one 9 ∷ put_one 10 ∷ Del (key 1) ∷ Del (key 2) ∷ Flush ∷ []

-- two tables of one key each, and a lesser key in the memory
abbrev pub five_and_six_under_one : List Request
five_and_six_under_one = put_one 5 ∷ Flush ∷ put_one 6 ∷ Flush ∷ put_one 1 ∷ []

-- aa1 and ab1 in one table
abbrev pub aa1_and_ab1 : List Request
aa1_and_ab1 = Put (codes "aa1") (1 ∷ []) ∷ Put (codes "ab1") (2 ∷ []) ∷ Flush ∷ []

-- a value in level 6, then four tables in level 0, the oldest of them with the key's tombstone alone
abbrev pub tombstone_over_a_value : List Request
tombstone_over_a_value =
    put_one 0x61 ∷ Compact ∷ Del (key 0x61) ∷ Flush ∷ put_one 0x62 ∷ Flush ∷ put_one 0x63 ∷ Flush ∷ put_one 0x64 ∷ Flush ∷ []

-- two tables, each with another value of one key
abbrev pub two_values : List Request
two_values = Put (key 0x61) (1 ∷ []) ∷ Flush ∷ Put (key 0x61) (2 ∷ []) ∷ Flush ∷ []

-- a table of one key and no value in a given number of pages
abbrev pub table_at : ℕ → ℕ → ℕ → Bytes → Table
table_at level first_page pages key = record {
  level = level;
  first_page = first_page;
  pages = pages;
  blocks = 1;
  settings = base;
  entries = del_entry key ∷ [];
  ranges = [];
}

-- such a table with a deleted range from its key up to another one
abbrev pub reaching : Table → ℕ → Table
reaching t end = record t { ranges = range_of (first_key t.entries) (key end) ∷ [] }

-- an entry of one byte that is set, and a range between keys of one byte that is cleared
abbrev pub set_key : ℕ → ℕ → Change
set_key n value = Sets (put_entry (key n) (value ∷ []))

abbrev pub cleared_keys : ℕ → ℕ → Change
cleared_keys lo hi = Clears (range_of (key lo) (key hi))

-- the state after changes that are written, after a flush and after a compaction; the same, where they are refused
abbrev pub after_changes : State → List Change → State
after_changes s changes = fold (λ (t : State) (change : Change). (done_or_refused t (written one_byte t change)).1) s changes

abbrev pub after_flush : State → State
after_flush s = (done_or_refused s (flushed one_byte s)).1

abbrev pub after_compaction : State → State
after_compaction s = (done_or_refused s (compacted one_byte s)).1

-- 61, 62 and 63 in a table, and in memory a range over the first two
abbrev pub two_cleared : State
two_cleared = after_changes (after_flush (after_changes small_store (set_key 0x61 1 ∷ set_key 0x62 2 ∷ set_key 0x63 3 ∷ []))) (cleared_keys 0x61 0x63 ∷ [])

-- a value, a range over it, a put within the range and its tombstone, each in a table
abbrev pub put_and_cleared : State
put_and_cleared = fold (λ (s : State) (change : Change). after_flush (after_changes s (change ∷ []))) small_store (set_key 0x62 1 ∷ cleared_keys 0x61 0x63 ∷ set_key 0x62 2 ∷ Sets (del_entry (key 0x62)) ∷ [])

-- a store of 4,096 pages with some tables
abbrev pub store_with : List Table → State
store_with tables = record (new_state base 4096) { tables = tables }

-- what a plan merges, and into what: the output level, then the first pages of the inputs
abbrev pub pages_of_plan : Option Plan → List ℕ
pages_of_plan None = []
pages_of_plan (Some plan) = plan.output ∷ map (λ (t : Table). t.first_page) plan.inputs

-- the merge of all tables of a state into level 1, with no block left to read, and the same with its one output
abbrev pub all_read : State → Job
all_read s = record { inputs = s.tables; output = 1; to_read = 0; written = [] }

abbrev pub all_written : State → Job
all_written s = record (all_read s) { written = table_at 1 204 3 (key 0x61) ∷ [] }

-- four tables that take all pages of a store but two
abbrev pub cramped : State
cramped = record (played one_byte small_store four_tables).1 { pages = 206 }

-- where a table is: level, first page, pages, data blocks, entries
abbrev pub place_and_size : Table → List ℕ
place_and_size t = t.level ∷ t.first_page ∷ t.pages ∷ t.blocks ∷ length t.entries ∷ []

-- the state with other settings, or with a given number of pages; the same, where that is refused
abbrev pub set_to : Settings → State → State
set_to settings s = (done_or_refused s (with_settings settings s)).1

abbrev pub grown_to : ℕ → State → State
grown_to pages s = (done_or_refused s (with_pages pages s)).1
