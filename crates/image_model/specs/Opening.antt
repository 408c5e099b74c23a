-- What opening finds wrong with an image: the first damage, in the order in which it looks.
use Rattle.std.specs.Prelude.{◌≡◌, ◌↔◌, ◌≤◌, ◌⊎◌, ◌+◌, ◌++◌, ℕ, true, List, [], ◌∷◌, map, Some, None}
use Rattle.std.specs.List.{AllByRecursion}
use Rattle.disk_trait.specs.Image.{Image}
use Rattle.byte_fields.specs.declared.parts.Damage.{Damage}
use Rattle.byte_fields.specs.declared.parts.Damage.TheVariants as damage
use Rattle.byte_fields.specs.declared.parts.Part.TheVariants as part
use Rattle.byte_fields.specs.declared.parts.Row.{Row}
use Rattle.filter_api.specs.Spellings.{IsDecided, Spelling, SpellsOne}
use Rattle.filter_api.specs.declared.errors.FilterFault.{FilterFault}
use Rattle.log_model.specs.Area.{LogBreaks, LogIs, area_in}
use Rattle.log_model.specs.Records.{Breaks}
use Rattle.map_model.specs.SortedMap.{Bytes}
use Rattle.byte_fields.specs.Faults.{Fault}
use Rattle.block_model.specs.Index.{IndexRow}
use Rattle.block_model.specs.IndexReading.{index_in}
use Rattle.block_model.specs.Places.{byte_of_page}
use Rattle.entry_model.specs.Entries.{Entry}
use Rattle.range_model.specs.Reach.{reach}
use Rattle.range_model.specs.Sources.{Change}
use Rattle.manifest_model.specs.Slots.{AreSlots, IsCurrent, IsNoStore, IsVersionOf, slots_damage}
use Rattle.manifest_model.specs.Tables.{KeyRange, follows, ranges_fault}
use Rattle.manifest_model.specs.Version.{Version, body_place, log_page_of}
use Rattle.state_model.specs.Merges.{greatest_key, least_key}
use Rattle.state_model.specs.Sound.{StandsBefore}
use Rattle.state_model.specs.State.{State}
use Rattle.state_model.specs.WithoutRanges.{HasOnlyEntries}
use Rattle.table_model.specs.Damage.{IsOfBytes, IsFilterDamage, IsSoundFilter, index_damage, index_part}
use Rattle.table_model.specs.Tables.{Table}
use Rattle.image_model.specs.Stands.{IsStateOf, settings_of}
use Rattle.image_model.specs.Tables.{AreTablesOf}

-- ---- the tables, row by row: the index, then the filter

abbrev pub TablesBreak : Spelling → (Bytes → FilterFault) → Image → Damage → List Row → Type 0
TablesBreak spelling first_fault image d [] = ⊥
TablesBreak spelling first_fault image d (row ∷ rows) =
    (index_damage row image ≡ Some d)
    ⊎ ((index_damage row image ≡ None)
    × (IsFilterDamage spelling first_fault row image d ⊎ (IsSoundFilter spelling row image × TablesBreak spelling first_fault image d rows)))

-- index and filter have no damage
pub record IsOpened (spelling : Spelling) (image : Image) (row : Row) : Type 0 where
  pub index : index_damage row image ≡ None
  pub filter : IsSoundFilter spelling row image

-- ---- rule 12 of the manifest: how the tables of a deeper level are there, by their indexes

abbrev pub greatest_in : List IndexRow → Bytes
greatest_in [] = []
greatest_in (row ∷ []) = row.last
greatest_in (row ∷ next ∷ later) = greatest_in (next ∷ later)

-- the level of a row, and the least and the greatest key of its index; the ends of its ranges do not count yet
abbrev pub key_range_of : Image → Row → KeyRange
key_range_of image row = record {
  level = row.level;
  least = (index_in (index_part row image)).least;
  greatest = greatest_in (index_in (index_part row image)).rows;
  reach = [];
}

-- the range of a table
abbrev pub range_of_table : Table → KeyRange
range_of_table t = record { level = t.level; least = least_key t; greatest = greatest_key t; reach = reach t.ranges }

-- ---- what a version names, in this order: the tables; their ranges, where all are opened; the log, where these have no fault

pub data VersionBreaks (spelling : Spelling) (first_fault : Bytes → FilterFault) (slot : ℕ) (v : Version) (image : Image) : Damage → Type 0 where
  at_a_table : (d : Damage) → TablesBreak spelling first_fault image d v.rows → VersionBreaks spelling first_fault slot v image d
  at_the_ranges : (f : Fault) → AllByRecursion (IsOpened spelling image) v.rows → ranges_fault (map (key_range_of image) v.rows) ≡ Some f
      → VersionBreaks spelling first_fault slot v image (damage.Shape part.Manifest (body_place slot + f.place) f.rule)
  at_the_log : (area at rule : ℕ) → AllByRecursion (IsOpened spelling image) v.rows → ranges_fault (map (key_range_of image) v.rows) ≡ None
      → v.log_page ≡ log_page_of area → LogBreaks area at rule image → VersionBreaks spelling first_fault slot v image (damage.Shape part.Log at rule)

-- the first damage of an image: that of its slots, and then that of what its version names
pub data FirstDamage (spelling : Spelling) (first_fault : Bytes → FilterFault) (image : Image) (d : Damage) : Type 0 where
  at_the_slots : slots_damage image ≡ Some d → FirstDamage spelling first_fault image d
  at_the_version : (slot other : ℕ) (v : Version) → AreSlots slot other → IsCurrent slot other v image
      → VersionBreaks spelling first_fault slot v image d → FirstDamage spelling first_fault image d

-- ---- an image in which opening finds nothing wrong

-- This version is in use, index and filter of each of its tables are sound, their ranges break no rule, and the log in use
-- spells these changes. Opening reads no block.
pub record OpensWith (spelling : Spelling) (v : Version) (changes : List Change) (image : Image) : Type 0 where
  pub version_is : IsVersionOf v image
  pub tables : AllByRecursion (IsOpened spelling image) v.rows
  pub ranges : ranges_fault (map (key_range_of image) v.rows) ≡ None
  pub area : ℕ
  pub area_is : v.log_page ≡ log_page_of area
  pub log : LogIs area changes image

-- what is opened then, where the rows' pages spell these tables
abbrev pub opened_state : Version → List Change → List Table → State
opened_state v log tables = record { settings = settings_of v; pages = v.pages; epoch = v.epoch; log = log; tables = tables; job = None; kept = [] }

-- ---- laws

-- An image of bytes is no store, or has a first damage, or opens. The kind of filter has to tell what spells
-- nothing, and each one proves that it does (the law `decided` of its interface).
abbrev pub AnImageOpens : Type 0
AnImageOpens =
    (spelling : Spelling) (first_fault : Bytes → FilterFault) (image : Image) → IsDecided spelling → IsOfBytes image
    → IsNoStore image ⊎ (((d : Damage) × FirstDamage spelling first_fault image d) ⊎ ((v : Version) × (log : List Change) × OpensWith spelling v log image))

-- what opens has no damage
abbrev pub OpenedHasNoDamage : Type 0
OpenedHasNoDamage =
    (spelling : Spelling) (first_fault : Bytes → FilterFault) (v : Version) (log : List Change) (image : Image) (d : Damage) → SpellsOne spelling
    → OpensWith spelling v log image → FirstDamage spelling first_fault image d → ⊥

-- An image that stands for a state opens with its log, and one that opens stands for a state where each row's pages spell a
-- table, the log sets entries alone, and no table has a range.
abbrev pub StateOpens : Type 0
StateOpens = (spelling : Spelling) (s : State) (image : Image) → IsStateOf spelling s image → (v : Version) × OpensWith spelling v s.log image

abbrev pub OpenedIsState : Type 0
OpenedIsState =
    (spelling : Spelling) (v : Version) (log : List Change) (entries : List Entry) (tables : List Table) (image : Image) → OpensWith spelling v log image
    → AreTablesOf spelling v.rows tables image → HasOnlyEntries (opened_state v log tables) entries → IsStateOf spelling (opened_state v log tables) image

-- Of two tables whose levels do not fall, rule 12 lets the second follow exactly where the first comes before it, its ranges
-- counted.
abbrev pub FollowsAsItStands : Type 0
FollowsAsItStands = (t u : Table) → t.level ≤ u.level → (follows (range_of_table t) (range_of_table u) ≡ true) ↔ StandsBefore t u

-- there is one damage at most
abbrev pub OneDamage : Type 0
OneDamage =
    (spelling : Spelling) (first_fault : Bytes → FilterFault) (image : Image) (d e : Damage) → SpellsOne spelling
    → FirstDamage spelling first_fault image d → FirstDamage spelling first_fault image e → d ≡ e

-- an image that stands for a state has none, and is a store; what is no store has none, and stands for no state
abbrev pub StateHasNoDamage : Type 0
StateHasNoDamage =
    (spelling : Spelling) (first_fault : Bytes → FilterFault) (s : State) (image : Image) (d : Damage) → SpellsOne spelling
    → IsStateOf spelling s image → FirstDamage spelling first_fault image d → ⊥

abbrev pub NoStoreHasNoDamage : Type 0
NoStoreHasNoDamage =
    (spelling : Spelling) (first_fault : Bytes → FilterFault) (image : Image) (d : Damage) → IsNoStore image → FirstDamage spelling first_fault image d → ⊥

abbrev pub NoStoreHasNoState : Type 0
NoStoreHasNoState = (spelling : Spelling) (s : State) (image : Image) → IsNoStore image → IsStateOf spelling s image → ⊥

-- A fault of the ranges is said of the body of the slot in use.
abbrev pub RangesAreAtTheBody : Type 0
RangesAreAtTheBody =
    (spelling : Spelling) (first_fault : Bytes → FilterFault) (slot other : ℕ) (v : Version) (image : Image) (f : Fault) → AreSlots slot other
    → IsCurrent slot other v image → AllByRecursion (IsOpened spelling image) v.rows → ranges_fault (map (key_range_of image) v.rows) ≡ Some f
    → FirstDamage spelling first_fault image (damage.Shape part.Manifest (body_place slot + f.place) f.rule)

-- A fault of the log is said of the area that the version names by its first page.
abbrev pub LogIsAtItsPage : Type 0
LogIsAtItsPage =
    (spelling : Spelling) (first_fault : Bytes → FilterFault) (slot other : ℕ) (v : Version) (image : Image) (area place rule : ℕ) → AreSlots slot other
    → IsCurrent slot other v image → AllByRecursion (IsOpened spelling image) v.rows → ranges_fault (map (key_range_of image) v.rows) ≡ None
    → v.log_page ≡ log_page_of area → Breaks place rule (area_in area image)
    → FirstDamage spelling first_fault image (damage.Shape part.Log (byte_of_page v.log_page + place) rule)

-- Of a version in use, where the tables before a row are opened, the damage of its index is the first, whatever its filter,
-- later tables, ranges and log are; and where the index has none, that of its filter.
pub record RowsAreInOrder (spelling : Spelling) (first_fault : Bytes → FilterFault) (image : Image) (d : Damage) : Type 0 where
  pub index :
      (slot other : ℕ) (v : Version) (before later : List Row) (row : Row) → AreSlots slot other → IsCurrent slot other v image
      → v.rows ≡ before ++ (row ∷ later) → AllByRecursion (IsOpened spelling image) before
      → index_damage row image ≡ Some d → FirstDamage spelling first_fault image d
  pub filter :
      (slot other : ℕ) (v : Version) (before later : List Row) (row : Row) → AreSlots slot other → IsCurrent slot other v image
      → v.rows ≡ before ++ (row ∷ later) → AllByRecursion (IsOpened spelling image) before
      → index_damage row image ≡ None → IsFilterDamage spelling first_fault row image d
      → FirstDamage spelling first_fault image d

abbrev pub RowsComeFirst : Type 0
RowsComeFirst =
    (spelling : Spelling) (first_fault : Bytes → FilterFault) (image : Image) (d : Damage)
    → RowsAreInOrder spelling first_fault image d
