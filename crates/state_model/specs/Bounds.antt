-- How many blocks a get and a closed seek may read, and what `estimate` and `explain` tell.
use Rattle.std.specs.Prelude.{ℕ, suc, ◌+◌, Bool, true, not, ◌&&◌, if◌then◌else◌, List, [], ◌∷◌, filter, count_by, sum_by, Option, Some, None}
use Rattle.std.specs.Option.{option_map_or}
use Rattle.filter_model.specs.Leaves.{Leaf, leaves_of}
use Rattle.filter_model.specs.Answers.{point, ranged, tally}
use Rattle.map_model.specs.SortedMap.{Bytes, Map}
use Rattle.entry_model.specs.Entries.{Entry, keys_of}
use Rattle.entry_model.specs.Newest.{lookup}
use Rattle.map_model.specs.Slices.{is_before, is_between, seek}
use Rattle.state_model.specs.State.{State}
use Rattle.table_model.specs.Tables.{Table}
use Rattle.state_model.specs.View.{memory, state_map}
use Rattle.state_model.specs.Merges.{least_key, greatest_key}

-- the leaves of the table's filter
abbrev pub table_leaves : Table → List Leaf
table_leaves t = leaves_of t.settings.hash_bits t.settings.real_bits (keys_of t.entries)

-- the table's filter admits the key, or the keys from lo to hi
abbrev pub admits : Bytes → Table → Bool
admits key t = point t.settings.hash_bits t.settings.real_bits (table_leaves t) key

abbrev pub admits_range : Bytes → Bytes → Table → Bool
admits_range lo hi t = ranged t.settings.real_bits (table_leaves t) lo hi

-- the key is not below the table's least key and not above its greatest
abbrev pub encloses : Bytes → Table → Bool
encloses key t = not (is_before key (least_key t)) && not (is_before (greatest_key t) key)

-- a block of the table is read for the key
abbrev pub is_searched : Bytes → Table → Bool
is_searched key t = admits key t && encloses key t

-- nothing more, where the key was found
abbrev pub unless_found : Option (Option Bytes) → ℕ → ℕ
unless_found (Some value) more = 0
unless_found None more = more

-- the tables that are searched for the key, up to the first that has it
abbrev pub searched : Bytes → List Table → ℕ
searched key [] = 0
searched key (t ∷ older) =
    if is_searched key t then suc (unless_found (lookup t.entries key) (searched key older)) else searched key older

-- the blocks that a get may read
abbrev pub get_bound : State → Bytes → ℕ
get_bound s key = unless_found (lookup (memory s) key) (searched key s.tables)

-- the key comes before that of the answer, where there is one
abbrev pub is_passed : Option (Bytes × Bytes) → Bytes → Bool
is_passed None key = true
is_passed (Some answer) key = is_before key answer.0

-- the table's entries that a seek in the map steps over: from lo on, below the answer. Each of them is of a deleted key.
abbrev pub stepped : Map → Bytes → Bytes → Table → ℕ
stepped map lo hi t = count_by (λ (e : Entry). is_between lo (Some hi) e.key && is_passed (seek map lo (Some hi)) e.key) t.entries

-- the key up to which a closed seek looks: that of its answer, or hi where there is none
abbrev pub looks_to : Map → Bytes → Bytes → Bytes
looks_to map lo hi = option_map_or (λ (answer : Bytes × Bytes). answer.0) (seek map lo (Some hi)) hi

-- the blocks that a closed seek may read: one of each table that admits lo to where it looks, and one for each entry stepped over
abbrev pub seek_bound : State → Bytes → Bytes → ℕ
seek_bound s lo hi =
    if is_before hi lo then 0
    else sum_by (λ (t : Table). suc (stepped (state_map s) lo hi t)) (filter (admits_range lo (looks_to (state_map s) lo hi)) s.tables)

-- how many tables admit the bounds: those that a range or a count may read
abbrev pub tables_between : State → Bytes → Bytes → ℕ
tables_between s lo hi = if is_before hi lo then 0 else count_by (admits_range lo hi) s.tables

-- about how many keys lie from lo to hi: the memory entries there, and for each table what its filter counts
abbrev pub estimate : State → Bytes → Bytes → ℕ
estimate s lo hi =
    if is_before hi lo then 0
    else count_by (λ (e : Entry). is_between lo (Some hi) e.key) (memory s) + sum_by (λ (t : Table). tally t.settings.real_bits (table_leaves t) lo hi) s.tables

-- the tables whose filter admits the key, and those of them that are searched
abbrev pub admitted : State → Bytes → ℕ
admitted s key = count_by (admits key) s.tables

abbrev pub blocks_read : State → Bytes → ℕ
blocks_read s key = count_by (is_searched key) s.tables
