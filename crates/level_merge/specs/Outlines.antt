-- Open tables as a state's tables of which memory tells no more than their bounds.
use Rattle.std.specs.Prelude.{ℕ, ◌-◌, ◌+◌, Bool, not, ◌&&◌, List, [], ◌∷◌, ◌++◌, filter, length, map, slice_index_or, Option, None, take}
use Rattle.std.specs.Option.{option_map}
use Rattle.block_model.specs.Places.{pages_of}
use Rattle.entry_model.specs.Entries.{entry_of}
use Rattle.filter_api.specs.Ranges.{row_settings}
use Rattle.level_merge.specs.Plans.{PlanByNumbers}
use Rattle.key_base.specs.ByteOrder.{Bytes, is_before}
use Rattle.state_model.specs.Merges.{Plan, greatest_key, greatest_of, least_key, least_of, on_level, plan_of}
use Rattle.table_file.specs.Opened.{Opened}
use Rattle.table_file.specs.Search.{row_at}
use Rattle.table_model.specs.Tables.{Table}

-- An open table with its number in the place of its first page, and with its least and its greatest key alone.
abbrev pub outline : ℕ → Opened → Table
outline number t = record {
  level = t.row.level;
  first_page = number;
  pages = pages_of t.row;
  blocks = length t.index.rows;
  settings = row_settings t.row;
  entries = entry_of t.index.least None ∷ entry_of (row_at t.index.rows (length t.index.rows - 1)).last None ∷ [];
  ranges = [];
}

abbrev pub outlines : List Opened → List Table
outlines [] = []
outlines (t ∷ later) = outline (length later) t ∷ outlines later

abbrev pub table_number : Table → ℕ
table_number t = t.first_page

-- those of some numbers
abbrev pub nothing : Table
nothing = record { level = 0; first_page = 0; pages = 0; blocks = 0; settings = record { hash_bits = 0; real_bits = 0; ratio = 64 }; entries = []; ranges = [] }

abbrev pub outline_of : List Opened → ℕ → Table
outline_of tables number = slice_index_or (outlines tables) (length tables - 1 - number) nothing

-- a plan of outlines, by their numbers
abbrev pub by_numbers : Plan → PlanByNumbers
by_numbers plan = record { inputs = map table_number plan.inputs; output = plan.output }

-- the first table of a level, with what it meets, where a level is given
abbrev pub plan_from : List Table → Option ℕ → Option Plan
plan_from tables level = option_map (λ level. plan_of tables (take 1 (on_level level tables)) (level + 1)) level

-- the table's keys reach into those from lo to hi: so tables without ranges meet
abbrev pub overlaps : Bytes → Bytes → Table → Bool
overlaps lo hi t = not (is_before (greatest_key t) lo) && not (is_before hi (least_key t))

-- some of all tables, with those of the level below that their keys reach into
abbrev pub plan_by_keys : List Table → List Table → ℕ → Plan
plan_by_keys all tables output = record { inputs = tables ++ filter (overlaps (least_of tables) (greatest_of tables)) (on_level output all); output = output }
