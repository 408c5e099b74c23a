-- What a check of the whole store finds wrong with an image: a list, in the order in which it looks. Opening reads no block and
-- compares no filter with keys; a check does both.
use Rattle.std.specs.Prelude.{◌≡◌, ◌↔◌, ◌⊎◌, ◌+◌, ◌==◌, ℕ, Bool, true, not, ◌&&◌, ◌||◌, List, [], ◌∷◌, ◌++◌, length, map, is_none, if◌then◌else◌, Option, Some, None}
use Rattle.std.specs.List.{AllByRecursion}
use Rattle.disk_trait.specs.Image.{Image}
use Rattle.byte_fields.specs.Faults.{Fault, refuse}
use Rattle.byte_fields.specs.declared.parts.Damage.{Damage}
use Rattle.byte_fields.specs.declared.parts.Damage.TheVariants as damage
use Rattle.byte_fields.specs.declared.parts.Part.{Part}
use Rattle.byte_fields.specs.declared.parts.Part.TheVariants as part
use Rattle.byte_fields.specs.declared.parts.Row.{Row}
use Rattle.filter_api.specs.Spellings.{IsDecided, Spelling, SpellsOne}
use Rattle.filter_api.specs.declared.errors.FilterFault.{FilterFault}
use Rattle.filter_model.specs.Answers.{first_difference}
use Rattle.filter_model.specs.Leaves.{leaves_of}
use Rattle.filter_model.specs.Strings.{bytes_eq}
use Rattle.key_base.specs.ByteOrder.{is_before}
use Rattle.map_model.specs.SortedMap.{Bytes}
use Rattle.entry_model.specs.Entries.{Entry, keys_of}
use Rattle.block_model.specs.BlockReading.{block_in}
use Rattle.block_model.specs.Index.{IndexRow}
use Rattle.block_model.specs.IndexReading.{index_in}
use Rattle.block_model.specs.Laws.{joined}
use Rattle.block_model.specs.Pages.{first_key, last_key, pages_for}
use Rattle.block_model.specs.Places.{byte_of_page, filter_page, index_page}
use Rattle.log_model.specs.Area.{LogBreaks, LogIs}
use Rattle.range_model.specs.Sources.{Change, Sets}
use Rattle.manifest_model.specs.Slots.{AreSlots, IsCurrent, IsNoStore, IsVersionOf, slots_damage}
use Rattle.manifest_model.specs.Tables.{follows}
use Rattle.manifest_model.specs.Version.{Version, body_place, log_page_of}
use Rattle.table_model.specs.Images.{IsTableAt}
use Rattle.table_model.specs.Damage.{IsFilterDamage, IsOfBytes, IsSoundFilter, block_damage, block_part, index_damage, index_part}
use Rattle.state_model.specs.State.{State}
use Rattle.image_model.specs.Opening.{FirstDamage, key_range_of}
use Rattle.image_model.specs.Stands.{IsStateOf}

-- what is wrong: another sum, a broken rule, keys against the index, entries against the row, a leaf against the keys
pub data What : Type 0 where
  OtherSum : (kept : ℕ) → (seen : ℕ) → What
  BrokenRule : (rule : ℕ) → What
  WrongKeys : What
  WrongCount : What
  WrongLeaf : (number : ℕ) → What

-- and where: a part, and a byte of the device
pub record Finding : Type 0 where
  pub part : Part
  pub at : ℕ
  pub what : What

abbrev pub finding : Part → ℕ → What → Finding
finding part at what = record { part = part; at = at; what = what }

-- a damage as a finding, or none
abbrev pub found_by : Option Damage → List Finding
found_by None = []
found_by (Some (damage.Sum part at kept seen)) = finding part at (OtherSum kept seen) ∷ []
found_by (Some (damage.Shape part at rule)) = finding part at (BrokenRule rule) ∷ []

-- one finding, unless it is as it has to be
abbrev pub unless : Bool → Finding → List Finding
unless right f = if right then [] else f ∷ []

-- ---- the blocks of a table, from a page on

-- what is known of the key before a block: there is none, and the least key has to come; nothing, since the block before is
-- damaged; or it is this one
pub data Before : Type 0 where
  AtLeast : (key : Bytes) → Before
  Unknown : Before
  Behind : (key : Bytes) → Before

abbrev pub may_follow : Before → Bytes → Bool
may_follow (AtLeast least) key = bytes_eq least key
may_follow Unknown key = true
may_follow (Behind before) key = is_before before key

-- a block that is read at its page
abbrev pub block_at : ℕ → IndexRow → Image → List Entry
block_at page row image = block_in (block_part page row image)

-- it ends with the index's last key, and begins as it may
abbrev pub has_its_keys : Before → IndexRow → List Entry → Bool
has_its_keys before row block = bytes_eq row.last (last_key block) && may_follow before (first_key block)

-- the damage of a block is its one finding; without one it is its keys
abbrev pub findings_at : ℕ → Before → IndexRow → Option Damage → Image → List Finding
findings_at page before row (Some d) image = found_by (Some d)
findings_at page before row None image = unless (has_its_keys before row (block_at page row image)) (finding part.Block (byte_of_page page) WrongKeys)

-- what is known after it
abbrev pub known_behind : ℕ → IndexRow → Option Damage → Image → Before
known_behind page row (Some d) image = Unknown
known_behind page row None image = Behind (last_key (block_at page row image))

abbrev pub block_findings : ℕ → Before → List IndexRow → Image → List Finding
block_findings page before [] image = []
block_findings page before (row ∷ later) image =
    findings_at page before row (block_damage page row image) image
    ++ block_findings (page + row.pages) (known_behind page row (block_damage page row image) image) later image

-- no damage is among them
abbrev pub are_sound_blocks : ℕ → List IndexRow → Image → Bool
are_sound_blocks page [] image = true
are_sound_blocks page (row ∷ later) image = is_none (block_damage page row image) && are_sound_blocks (page + row.pages) later image

-- all that are read
abbrev pub blocks_at : ℕ → List IndexRow → Image → List (List Entry)
blocks_at page [] image = []
blocks_at page (row ∷ later) image = block_at page row image ∷ blocks_at (page + row.pages) later image

-- ---- the index and the blocks of a row

abbrev pub index_rows : Row → Image → List IndexRow
index_rows row image = (index_in (index_part row image)).rows

abbrev pub blocks_of_row : Row → Image → List (List Entry)
blocks_of_row row image = blocks_at row.first_page (index_rows row image) image

abbrev pub findings_of_blocks : Row → Image → List Finding
findings_of_blocks row image = block_findings row.first_page (AtLeast (index_in (index_part row image)).least) (index_rows row image) image

-- how many entries there are, where all blocks are sound
abbrev pub count_findings : Row → Image → List Finding
count_findings row image =
    unless (not (are_sound_blocks row.first_page (index_rows row image) image) || (length (joined (blocks_of_row row image)) == row.entries))
    (finding part.Index (byte_of_page (index_page row)) WrongCount)

-- the index's damage; without one what is wrong with the blocks, and then the count
abbrev pub findings_behind : Row → Option Damage → Image → List Finding
findings_behind row (Some d) image = found_by (Some d)
findings_behind row None image = findings_of_blocks row image ++ count_findings row image

abbrev pub index_findings : Row → Image → List Finding
index_findings row image = findings_behind row (index_damage row image) image

-- the keys of a table are known where its index is sound, and its blocks are and have their keys
abbrev pub keys_by : Row → Option Damage → List Finding → Image → Option (List Bytes)
keys_by row None [] image = Some (keys_of (joined (blocks_of_row row image)))
keys_by row None (f ∷ more) image = None
keys_by row (Some d) findings image = None

abbrev pub known_keys : Row → Image → Option (List Bytes)
known_keys row image = keys_by row (index_damage row image) (findings_of_blocks row image) image

-- ---- the filter of a row

abbrev pub leaf_findings : Row → Option ℕ → List Finding
leaf_findings row None = []
leaf_findings row (Some number) = finding part.Filter (byte_of_page (filter_page row)) (WrongLeaf number) ∷ []

-- the filter's findings: its damage; or where it is sound, and the table's keys are known, the first leaf that is not theirs
pub data FilterFindings (spelling : Spelling) (first_fault : Bytes → FilterFault) (row : Row) (keys : Option (List Bytes)) (image : Image) : List Finding → Type 0 where
  damaged : (d : Damage) → IsFilterDamage spelling first_fault row image d → FilterFindings spelling first_fault row keys image (found_by (Some d))
  unknown : IsSoundFilter spelling row image → keys ≡ None → FilterFindings spelling first_fault row keys image []
  compared : (known : List Bytes) (sound : IsSoundFilter spelling row image) → keys ≡ Some known
      → FilterFindings spelling first_fault row keys image (leaf_findings row (first_difference sound.leaves (leaves_of row.hash_bits row.real_bits known)))

-- ---- what a version names

-- row by row: the index, the blocks and the count, then the filter
abbrev pub RowsFindings : Spelling → (Bytes → FilterFault) → Image → List Row → List Finding → Type 0
RowsFindings spelling first_fault image [] findings = findings ≡ []
RowsFindings spelling first_fault image (row ∷ rows) findings =
    (of_filter : List Finding) × (later : List Finding) × FilterFindings spelling first_fault row (known_keys row image) image of_filter
    × RowsFindings spelling first_fault image rows later × (findings ≡ index_findings row image ++ (of_filter ++ later))

-- Rule 12 of the manifest, at the first two neighbours that break it and whose indexes are sound; the place is that of the second
-- row in the body.
abbrev pub has_sound_index : Row → Image → Bool
has_sound_index row image = is_none (index_damage row image)

abbrev pub fault_after : ℕ → Row → List Row → Image → Option Fault
fault_after place before [] image = None
fault_after place before (row ∷ later) image =
    refuse (has_sound_index before image && (has_sound_index row image && not (follows (key_range_of image before) (key_range_of image row)))) place 12
    (fault_after (place + 64) row later image)

abbrev pub neighbours_fault : List Row → Image → Option Fault
neighbours_fault [] image = None
neighbours_fault (row ∷ later) image = fault_after 128 row later image

abbrev pub ranges_findings : ℕ → Option Fault → List Finding
ranges_findings slot None = []
ranges_findings slot (Some f) = finding part.Manifest (body_place slot + f.place) (BrokenRule f.rule) ∷ []

-- the log that the version names spells some changes, or breaks a rule
pub data LogFindings (v : Version) (image : Image) : List Finding → Type 0 where
  spelled : (area : ℕ) (changes : List Change) → v.log_page ≡ log_page_of area → LogIs area changes image → LogFindings v image []
  broken : (area at rule : ℕ) → v.log_page ≡ log_page_of area → LogBreaks area at rule image → LogFindings v image (finding part.Log at (BrokenRule rule) ∷ [])

-- ---- the image

-- The findings of an image: the first damage of its slots, and then nothing more is looked at; or those of what its version
-- names. An image of which no slot is open has no list.
pub data AreFindings (spelling : Spelling) (first_fault : Bytes → FilterFault) (image : Image) : List Finding → Type 0 where
  of_slots : (d : Damage) → slots_damage image ≡ Some d → AreFindings spelling first_fault image (found_by (Some d))
  of_version : (slot other : ℕ) (v : Version) (of_rows of_log : List Finding) → AreSlots slot other → IsCurrent slot other v image
      → RowsFindings spelling first_fault image v.rows of_rows → LogFindings v image of_log
      → AreFindings spelling first_fault image (of_rows ++ (ranges_findings slot (neighbours_fault v.rows image) ++ of_log))

-- ---- images of entries alone

-- the index of a row has no range
abbrev pub HasNoIndexRange : Image → Row → Type 0
HasNoIndexRange image row = (index_in (index_part row image)).ranges ≡ []

-- the log of the version sets entries alone, and no index of its rows has a range
pub record NamesOnlyEntries (v : Version) (image : Image) : Type 0 where
  pub area : ℕ
  pub area_is : v.log_page ≡ log_page_of area
  pub entries : List Entry
  pub log : LogIs area (map Sets entries) image
  pub indexes : AllByRecursion (HasNoIndexRange image) v.rows

-- so is it of the version of the image
abbrev pub ShowsOnlyEntries : Image → Type 0
ShowsOnlyEntries image = (v : Version) × IsVersionOf v image × NamesOnlyEntries v image

-- ---- laws

-- Where index, blocks and count of a row give no finding, and its filter is sound and of no leaf that differs, its pages spell
-- the table of its blocks, if index and filter have the pages that their lengths want.
abbrev pub RowWithoutFindingIsTable : Type 0
RowWithoutFindingIsTable =
    (spelling : Spelling) (first_fault : Bytes → FilterFault) (row : Row) (image : Image) → IsOfBytes image
    → row.index_pages ≡ pages_for row.index_len → row.filter_pages ≡ pages_for row.filter_len
    → index_findings row image ≡ [] → FilterFindings spelling first_fault row (known_keys row image) image []
    → IsTableAt spelling row (blocks_of_row row image) image

-- None is found in an image of entries alone exactly where it represents a state.
abbrev pub NoFindingIsState : Type 0
NoFindingIsState =
    (spelling : Spelling) (first_fault : Bytes → FilterFault) (image : Image) → IsOfBytes image
    → (AreFindings spelling first_fault image [] × ShowsOnlyEntries image) ↔ ((s : State) × IsStateOf spelling s image)

-- An image has one list, where the kind of filter spells one; an image of bytes that is a store has one, where it can tell.
abbrev pub OneListOfFindings : Type 0
OneListOfFindings =
    (spelling : Spelling) (first_fault : Bytes → FilterFault) (image : Image) (findings others : List Finding) → SpellsOne spelling
    → AreFindings spelling first_fault image findings → AreFindings spelling first_fault image others → findings ≡ others

abbrev pub FindingsAreTold : Type 0
FindingsAreTold =
    (spelling : Spelling) (first_fault : Bytes → FilterFault) (image : Image) → IsDecided spelling → IsOfBytes image
    → IsNoStore image ⊎ ((findings : List Finding) × AreFindings spelling first_fault image findings)

-- an image of which no slot is open has none, not even an empty one
abbrev pub NoStoreHasNoFindings : Type 0
NoStoreHasNoFindings =
    (spelling : Spelling) (first_fault : Bytes → FilterFault) (image : Image) (findings : List Finding) → IsNoStore image
    → AreFindings spelling first_fault image findings → ⊥

-- what opening does not look for: what is wrong with a block, other entries than the row's, a leaf that differs
abbrev pub IsBeyondOpening : Finding → Type 0
IsBeyondOpening f = (f.part ≡ part.Block) ⊎ ((f.what ≡ WrongCount) ⊎ ((number : ℕ) × (f.what ≡ WrongLeaf number)))

-- The damage that opening finds first is among the findings, and before it are only those that opening does not look for.
abbrev pub FirstDamageIsFound : Type 0
FirstDamageIsFound =
    (spelling : Spelling) (first_fault : Bytes → FilterFault) (image : Image) (d : Damage) (findings : List Finding) → SpellsOne spelling
    → FirstDamage spelling first_fault image d → AreFindings spelling first_fault image findings
    → (before : List Finding) × (later : List Finding) × AllByRecursion IsBeyondOpening before × (findings ≡ before ++ (found_by (Some d) ++ later))
