-- The tables and the log of a state are merged: the rows with a value are the pairs of its map.
use Rattle.std.proofs.Common.{◌≡◌, ◌∙◌, ◌≤◌, ◌<◌, ◌+◌, ◌-◌, ℕ, zero, suc, Bool, true, false, cond, not, List, [], ◌∷◌, ◌++◌, length, map, refl, sym, ap, subst, arith}
use Rattle.std.specs.Prelude.{Option, Some, None, bytes_eq, is_some, reverse, slice_get}
use Rattle.std.specs.List.{AllByRecursion, sum_by}
use Rattle.std.specs.Option.{option_or}
use Rattle.std.proofs.lemmas.Grind.{flat_map-append}
use Rattle.std.proofs.lemmas.List.{append-nil, append_assoc, length-append, reverse-append}
use Rattle.std.proofs.lemmas.List.Sums.{sum_by-cons}
use Rattle.std.proofs.lemmas.Slice.Eq.{bytes_eq-Decides}
use Rattle.block_model.specs.Laws.{joined}
use Rattle.disk_trait.specs.Image.{Image}
use Rattle.entry_model.proofs.Maps.{entries_rise}
use Rattle.entry_model.proofs.Newest.{none_above}
use Rattle.entry_model.specs.Entries.{Entry, live}
use Rattle.entry_model.specs.Newest.{ComesBehind, KeysRise, entries_from, lookup}
use Rattle.filter_api.specs.Spellings.{Spelling}
use Rattle.key_base.specs.ByteOrder.{is_before}
use Rattle.map_model.specs.SortedMap.{Bytes, Map, Rises, get}
use Rattle.merge_rows.proofs.Merged.{merged_rises, merged_says, said_by}
use Rattle.merge_rows.specs.Laws.{MergesAreWhole, NumberedStand, StandingMerges}
use Rattle.merge_rows.specs.Merges.{Merge, merge_from, numbered, rows_left}
use Rattle.merge_rows.specs.Rows.{merged_rows, rows_shown}
use Rattle.merge_rows.specs.Steps.{AreNumbersIn, IsSoundMerge}
use Rattle.state_model.proofs.SameMaps.{one_map}
use Rattle.state_model.proofs.Sayings.{AllRise, lists_of, newest_of_rising, source_sound}
use Rattle.state_model.proofs.SoundLogs.{newest_few, source_few}
use Rattle.state_model.proofs.Views.{tables_rise, view_says}
use Rattle.state_model.proofs.WithoutRanges.{map_alone, view_alone}
use Rattle.state_model.specs.Sound.{IsSound}
use Rattle.state_model.specs.State.{State}
use Rattle.state_model.specs.View.{memory, state_map}
use Rattle.state_model.specs.WithoutRanges.{HasOnlyEntries, first_found, table_entries}
use Rattle.store_check.specs.Summaries.{AreTablesThere, entries_in, numbers_below}
use Rattle.table_file.specs.Opened.{Opened}
use Rattle.table_model.specs.Tables.{FilterBytes, Table}

-- ---- all tables, by their numbers

there_below : (n most : ℕ) → n ≤ most → AllByRecursion (λ (number : ℕ). number < most) (numbers_below n)
there_below zero most few = tt
there_below (suc n) most few = (omega (arith, few), there_below n most (omega (arith, few)))

pub numbers_there : (tables : List Opened) (many : ℕ) → many ≡ length tables → AreNumbersIn tables (numbers_below many)
numbers_there tables many is = there_below many (length tables) (omega (arith, is))

abbrev pub all_blocks : (spelling : Spelling) (image : Image) (opened : List Opened) (tables : List Table) → AreTablesThere spelling opened tables image → List (List (List Entry))
all_blocks spelling image [] [] there = []
all_blocks spelling image [] (t ∷ tables) there = []
all_blocks spelling image (o ∷ opened) [] there = []
all_blocks spelling image (o ∷ opened) (t ∷ tables) there = there.0.blocks ∷ all_blocks spelling image opened tables there.1

get_behind : (front : List Opened) (o : Opened) (older : List Opened) → slice_get (front ++ o ∷ older) (length front) ≡ Some o
get_behind [] o older = refl
get_behind (x ∷ front) o older = get_behind front o older

numbered_at : (front : List Opened) (o : Opened) (older : List Opened) → numbered (front ++ o ∷ older) (length older) ≡ Some o
numbered_at front o older =
    let place : length (front ++ o ∷ older) - 1 - length older ≡ length front = omega (arith, length-append front (o ∷ older)) in
    ap (slice_get (front ++ o ∷ older)) place ∙ get_behind front o older

stand_behind : (spelling : Spelling) (image : Image) (front opened : List Opened) (tables : List Table) (there : AreTablesThere spelling opened tables image)
    → NumberedStand spelling (front ++ opened) image (numbers_below (length opened)) (all_blocks spelling image opened tables there)
stand_behind spelling image front [] [] there = tt
stand_behind spelling image front [] (t ∷ tables) there = elim there [ ]
stand_behind spelling image front (o ∷ opened) [] there = elim there [ ]
stand_behind spelling image front (o ∷ opened) (t ∷ tables) there = (
  (o, numbered_at front o opened, there.0.there),
  subst (λ (all : List Opened). NumberedStand spelling all image (numbers_below (length opened)) (all_blocks spelling image opened tables there.1))
      (append_assoc front (o ∷ []) opened) (stand_behind spelling image (front ++ o ∷ []) opened tables there.1),
)

blocks_joined : (spelling : Spelling) (image : Image) (opened : List Opened) (tables : List Table) (there : AreTablesThere spelling opened tables image)
    → map (λ (b : List (List Entry)). joined b) (all_blocks spelling image opened tables there) ≡ lists_of tables
blocks_joined spelling image [] [] there = refl
blocks_joined spelling image [] (t ∷ tables) there = elim there [ ]
blocks_joined spelling image (o ∷ opened) [] there = elim there [ ]
blocks_joined spelling image (o ∷ opened) (t ∷ tables) there = λ i. sym there.0.entries_are i ∷ blocks_joined spelling image opened tables there.1 i

-- ---- the pairs of rows whose keys rise

abbrev pub with_pair : Bytes → Option Bytes → Map → Map
with_pair key None later = later
with_pair key (Some value) later = (key, value) ∷ later

abbrev pub pairs_of : List Entry → Map
pairs_of [] = []
pairs_of (e ∷ later) = with_pair e.key e.value (pairs_of later)

abbrev ArePairsAbove : Bytes → Map → Type 0
ArePairsAbove key pairs = AllByRecursion (λ (pair : Bytes × Bytes). ComesBehind key (record { key = pair.0; value = None })) pairs

pairs_above : (key : Bytes) (rows : List Entry) → AllByRecursion (ComesBehind key) rows → ArePairsAbove key (pairs_of rows)
pairs_above key [] above = tt
pairs_above key (e ∷ later) above = by_value (pairs_above key later above.1) e.value
  where
    by_value : ArePairsAbove key (pairs_of later) → (value : Option Bytes) → ArePairsAbove key (with_pair e.key value (pairs_of later))
    by_value rest None = rest
    by_value rest (Some value) = (above.0, rest)

rises_behind : (pair : Bytes × Bytes) (later : Map) → ArePairsAbove pair.0 later → Rises later → Rises (pair ∷ later)
rises_behind pair [] above rises = tt
rises_behind pair (next ∷ later) above rises = (above.0, rises)

pub pairs_rise : (rows : List Entry) → KeysRise rows → Rises (pairs_of rows)
pairs_rise [] rises = tt
pairs_rise (e ∷ later) rises = by_value (pairs_rise later rises.1) e.value
  where
    by_value : Rises (pairs_of later) → (value : Option Bytes) → Rises (with_pair e.key value (pairs_of later))
    by_value rest None = rest
    by_value rest (Some value) = rises_behind (e.key, value) (pairs_of later) (pairs_above e.key later rises.0) rest

pub pairs_say : (rows : List Entry) (key : Bytes) → KeysRise rows → get (pairs_of rows) key ≡ live (lookup rows key)
pairs_say [] key rises = refl
pairs_say (e ∷ later) key rises = by_value (pairs_say later key rises.1) e.value (bytes_eq e.key key) refl
  where
    none_later : bytes_eq e.key key ≡ true → lookup later key ≡ None
    none_later is = subst (λ (k : Bytes). lookup later k ≡ None) ((bytes_eq-Decides e.key key).0 is) (none_above e.key later rises.0)

    by_value : get (pairs_of later) key ≡ live (lookup later key) → (value : Option Bytes) (same : Bool) → bytes_eq e.key key ≡ same
        → get (with_pair e.key value (pairs_of later)) key ≡ live (cond same (Some value) (lookup later key))
    by_value rest None true is = rest ∙ ap live (none_later is)
    by_value rest None false is = rest
    by_value rest (Some value) true is = ap (λ (t : Bool). cond t (Some value) (get (pairs_of later) key)) is
    by_value rest (Some value) false is = ap (λ (t : Bool). cond t (Some value) (get (pairs_of later) key)) is ∙ rest

shown_many : (rows : List Entry) → length (rows_shown true rows) ≡ length (pairs_of rows)
shown_many [] = refl
shown_many (e ∷ later) = by_value (shown_many later) e.value
  where
    by_value : length (rows_shown true later) ≡ length (pairs_of later) → (value : Option Bytes) → length (cond (is_some value) (e ∷ rows_shown true later) (rows_shown true later)) ≡ length (with_pair e.key value (pairs_of later))
    by_value rest None = rest
    by_value rest (Some value) = ap suc rest

-- from the least string on they are all
from_least : (rows : List Entry) → entries_from rows [] ≡ rows
from_least [] = refl
from_least (e ∷ later) = by_key (ap (λ (rows : List Entry). e ∷ rows) (from_least later)) e.key
  where
    by_key : e ∷ entries_from later [] ≡ e ∷ later → (key : Bytes) → cond (not (is_before key [])) (e ∷ entries_from later []) (entries_from later []) ≡ e ∷ later
    by_key rest [] = rest
    by_key rest (b ∷ key) = rest

-- ---- no more rows than entries

joined_many : (sources : List (List Entry)) → length (joined (reverse sources)) ≡ sum_by length sources
joined_many [] = refl
joined_many (source ∷ older) =
    ap (λ (l : List (List Entry)). length (joined l)) (reverse-append (source ∷ []) older)
    ∙ ap length (flat_map-append (λ (block : List Entry). block) (reverse older) (source ∷ []) ∙ ap (λ (l : List Entry). joined (reverse older) ++ l) (append-nil source))
    ∙ omega (arith, length-append (joined (reverse older)) source, joined_many older, sum_by-cons (length {A = Entry}) source older)

shown_few : (rows : List Entry) → length (rows_shown true rows) ≤ length rows
shown_few [] = omega arith
shown_few (e ∷ later) = elim (is_some e.value) as (λ t. length (cond t (e ∷ rows_shown true later) (rows_shown true later)) ≤ suc (length later)) [
  | true ↦ omega (arith, shown_few later)
  | false ↦ omega (arith, shown_few later)
]

lists_many : (tables : List Table) → sum_by length (lists_of tables) ≡ sum_by entries_in tables
lists_many [] = refl
lists_many (t ∷ tables) = omega (arith, lists_many tables, sum_by-cons (length {A = Entry}) t.entries (lists_of tables), sum_by-cons entries_in t tables)

-- ---- the rows of a state

said_first : (lists : List (List Entry)) (key : Bytes) → AllRise lists → said_by lists key ≡ first_found lists key
said_first [] key rise = refl
said_first (entries ∷ older) key rise =
    ap (λ (o : Option (Option Bytes)). option_or o (said_by older key)) (newest_of_rising entries key rise.0)
    ∙ ap (option_or (lookup entries key)) (said_first older key rise.1)

module _ (filter_bytes : FilterBytes) (s : State) (sound : IsSound filter_bytes s) (entries : List Entry) (only : HasOnlyEntries s entries) where
  abbrev all_lists : List (List Entry)
  all_lists = memory s ∷ lists_of s.tables

  pairs_are : pairs_of (merged_rows all_lists) ≡ state_map s
  pairs_are = one_map (pairs_of (merged_rows all_lists)) (state_map s) (pairs_rise (merged_rows all_lists) (merged_rises all_lists))
      (subst Rises (sym (map_alone s entries only)) (entries_rise [] (table_entries s.tables ++ entries) tt))
      (λ key. pairs_say (merged_rows all_lists) key (merged_rises all_lists)
      ∙ ap live (merged_says all_lists key ∙ said_first all_lists key ((source_sound s.log).rises, tables_rise s.tables sound.tables) ∙ sym (view_alone s entries key only))
      ∙ sym (view_says filter_bytes s key sound))

  module _ (merges : StandingMerges) (spelling : Spelling) (image : Image) (opened : List Opened) (there : AreTablesThere spelling opened s.tables image) where
    abbrev pub all_merged : Merge
    all_merged = merge_from (numbers_below (length opened)) opened (Some (memory s)) [] true

    whole : MergesAreWhole (numbers_below (length opened)) opened (Some (memory s)) [] true image (all_blocks spelling image opened s.tables there)
    whole = merges spelling opened image (numbers_below (length opened)) (all_blocks spelling image opened s.tables there) (Some (memory s)) [] true
        (stand_behind spelling image [] opened s.tables there) (source_sound s.log).rises

    pub merge_is_sound : IsSoundMerge all_merged opened image
    merge_is_sound = whole.sound

    rows_are : rows_left all_merged opened image ≡ rows_shown true (merged_rows all_lists)
    rows_are =
        whole.rows
        ∙ ap (rows_shown true) (from_least (merged_rows (memory s ∷ map (λ (b : List (List Entry)). joined b) (all_blocks spelling image opened s.tables there)))
        ∙ ap (λ (lists : List (List Entry)). merged_rows (memory s ∷ lists)) (blocks_joined spelling image opened s.tables there))

    -- as many as the state has pairs
    pub rows_many : length (rows_left all_merged opened image) ≡ length (state_map s)
    rows_many = ap length rows_are ∙ shown_many (merged_rows all_lists) ∙ ap length pairs_are

    -- and no more than it has entries
    pub rows_few : length (rows_left all_merged opened image) ≤ sum_by entries_in s.tables + length s.log
    rows_few = omega (
      arith,
      ap length rows_are,
      shown_few (merged_rows all_lists),
      newest_few (joined (reverse all_lists)),
      joined_many all_lists,
      sum_by-cons (length {A = Entry}) (memory s) (lists_of s.tables),
      lists_many s.tables,
      source_few s.log,
    )
