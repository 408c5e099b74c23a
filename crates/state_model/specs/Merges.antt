-- Which tables are merged, and into what.
use Rattle.std.specs.Prelude.{◌≡◌, ℕ, zero, suc, ◌+◌, ◌-◌, ◌*◌, ◌^◌, ◌==◌, nat_le, nat_lt, Bool, true, false, not, ◌&&◌, if◌then◌else◌, List, [], ◌∷◌, ◌++◌, take, filter, fold, length, Option, Some, None, Result, Ok, Err}
use Rattle.std.specs.List.{list_any, sum_by}
use Rattle.filter_api.specs.declared.settings.Settings.{Settings}
use Rattle.key_base.specs.Limits.{merge_data_pages}
use Rattle.map_model.specs.SortedMap.{Bytes}
use Rattle.entry_model.specs.Entries.{Entry}
use Rattle.range_model.specs.Sources.{Source, alone, source_of}
pub use Rattle.range_model.specs.Ranges.{greater_key, lesser_key}
use Rattle.range_model.specs.Outputs.{with_ranges}
use Rattle.range_model.specs.Reach.{reach, lies_below}
use Rattle.block_model.specs.Pages.{data_pages, first_key, last_key}
use Rattle.map_model.specs.Slices.{is_before}
use Rattle.table_model.specs.Tables.{FilterBytes, Table, as_source, table_from, source_pages}
use Rattle.state_model.specs.View.{oldest_first}
use Rattle.extent_model.specs.Extents.{Extent}
use Rattle.extent_model.specs.Gaps.{first_gap, largest_gap}

-- ---- which tables

abbrev pub least_key : Table → Bytes
least_key t = first_key t.entries

abbrev pub greatest_key : Table → Bytes
greatest_key t = last_key t.entries

abbrev pub on_level : ℕ → List Table → List Table
on_level level tables = filter (λ (t : Table). t.level == level) tables

-- the least and the greatest of all their keys
abbrev pub least_of : List Table → Bytes
least_of [] = []
least_of (t ∷ more) = fold (λ key (u : Table). lesser_key key (least_key u)) (least_key t) more

abbrev pub greatest_of : List Table → Bytes
greatest_of [] = []
greatest_of (t ∷ more) = fold (λ key (u : Table). greater_key key (greatest_key u)) (greatest_key t) more

-- the greatest end of their ranges, no bytes where there is none
abbrev pub reach_of : List Table → Bytes
reach_of tables = fold (λ key (u : Table). greater_key key (reach u.ranges)) [] tables

-- all that the table speaks of comes before the key; its last range may end there
abbrev pub LiesBelow : Table → Bytes → Type 0
LiesBelow t key = lies_below (as_source t) key ≡ true

-- all that some tables speak of comes before the key
abbrev pub all_below : List Table → Bytes → Bool
all_below tables key = is_before (greatest_of tables) key && not (is_before key (reach_of tables))

-- the table reaches into what some tables speak of: it does not lie below the least of their keys, nor they below its least
abbrev pub reaches_into : List Table → Table → Bool
reaches_into tables t = not (lies_below (as_source t) (least_of tables)) && not (all_below tables (least_key t))

-- tables that are merged, the newest first, and the level of what they become
pub record Plan : Type 0 where
  pub inputs : List Table
  pub output : ℕ

-- some of all tables, with those of the level below that they meet
abbrev pub plan_of : List Table → List Table → ℕ → Plan
plan_of all tables output = record { inputs = tables ++ filter (reaches_into tables) (on_level output all); output = output }

-- the pages that a level may have
abbrev pub level_limit : ℕ → ℕ
level_limit level = 256 * 8 ^ (level - 1)

abbrev pub is_over : List Table → ℕ → Bool
is_over tables level = nat_lt (level_limit level) (sum_by (λ (t : Table). t.pages) (on_level level tables))

-- of the first of these levels that has more, the table with the least keys
abbrev pub first_over : List Table → List ℕ → Option Plan
first_over tables [] = None
first_over tables (level ∷ deeper) = if is_over tables level then Some (plan_of tables (take 1 (on_level level tables)) (level + 1)) else first_over tables deeper

-- what is to be merged of a version's tables: level 0 where it has four tables or more, else from the first level that has too many pages
abbrev pub choose : List Table → Option Plan
choose tables = if nat_le 4 (length (on_level 0 tables)) then Some (plan_of tables (on_level 0 tables) 1) else first_over tables (1 ∷ 2 ∷ 3 ∷ 4 ∷ 5 ∷ [])

-- ---- into what

-- none of the tables lies deeper than the level
abbrev pub is_deepest : List Table → ℕ → Bool
is_deepest tables level = not (list_any (λ (t : Table). nat_lt level t.level) tables)

abbrev pub has_value : Option Bytes → Bool
has_value None = false
has_value (Some value) = true

-- the entries that a merge keeps: without tombstones where nothing older can lie below them
abbrev pub lasting : Bool → List Entry → List Entry
lasting is_last entries = if is_last then filter (λ (e : Entry). has_value e.value) entries else entries

-- what it keeps of a source: ranges go where tombstones go
abbrev pub lasting_of : Bool → Source → Source
lasting_of is_last s = if is_last then alone (lasting true s.entries) else s

-- what some tables make, the newest table first: the newest entry of each key that no newer range covers, and all ranges
abbrev pub merged_of : List Table → Source
merged_of tables = source_of (oldest_first tables)

-- The first output and what is left, after some entries that it has already. It is closed by the entry with which it has the
-- data pages at which a merge closes a table.
abbrev pub split_output : List Entry → List Entry → List Entry × List Entry
split_output output [] = (output, [])
split_output output (entry ∷ more) =
    if nat_le merge_data_pages (data_pages (output ++ (entry ∷ []))) then (output ++ (entry ∷ []), more) else split_output (output ++ (entry ∷ [])) more

-- the outputs: each but the last is closed as soon as it is full, and at most that many come beside one. None is empty.
abbrev pub outputs_of : ℕ → List Entry → List (List Entry)
outputs_of beside [] = []
outputs_of zero (entry ∷ more) = (entry ∷ more) ∷ []
outputs_of (suc beside) (entry ∷ more) =
    let split = split_output [] (entry ∷ more) in
    split.0 ∷ outputs_of beside split.1

-- never more outputs than inputs; with no input, one
abbrev pub outputs_for : List Table → List Entry → List (List Entry)
outputs_for inputs entries = outputs_of (length inputs - 1) entries

-- the entries of a source are cut into outputs, and each has the ranges up to the first key of the next
abbrev pub cut_for : List Table → Source → List Source
cut_for inputs s = with_ranges (outputs_for inputs s.entries) s.ranges

-- the outputs of a plan among some tables
abbrev pub planned : List Table → Plan → List Source
planned tables plan = cut_for plan.inputs (lasting_of (is_deepest tables plan.output) (merged_of plan.inputs))

-- ---- and where

-- a table that needs more pages than the largest gap has
pub record NoRoom : Type 0 where
  pub need : ℕ
  pub gap : ℕ

-- a table before those that are placed after it
abbrev pub before : Table → Result (List Table) NoRoom → Result (List Table) NoRoom
before t (Ok tables) = Ok (t ∷ tables)
before t (Err refusal) = Err refusal

-- what is at the page, where there is one
abbrev pub at_page : Option ℕ → (ℕ → Result (List Table) NoRoom) → NoRoom → Result (List Table) NoRoom
at_page (Some page) there refusal = there page
at_page None there refusal = Err refusal

-- On a device of a given number of pages, some outputs become tables of a level, each in the first gap that holds it beside what is
-- taken and those before it.
abbrev pub placed : FilterBytes → Settings → ℕ → List Extent → ℕ → List Source → Result (List Table) NoRoom
placed filter_bytes settings pages taken level [] = Ok []
placed filter_bytes settings pages taken level (output ∷ more) =
    let need = source_pages filter_bytes settings output in
    at_page (first_gap pages taken need)
    (λ page. before (table_from filter_bytes settings level page output) (placed filter_bytes settings pages ((page, need) ∷ taken) level more))
    (record { need = need; gap = largest_gap pages taken })
