-- The laws of tables on a device.
use Rattle.std.specs.Prelude.{◌≡◌, ◌≢◌, ◌⊎◌, ℕ, ◌+◌, ◌*◌, List, length, Some, None}
use Rattle.disk_trait.specs.Image.{Image, IsApart, Torn}
use Rattle.byte_fields.specs.Sums.{fnv_of}
use Rattle.byte_fields.specs.declared.parts.Damage.{Damage}
use Rattle.byte_fields.specs.declared.parts.Damage.TheVariants as damage
use Rattle.byte_fields.specs.declared.parts.Part.TheVariants as part
use Rattle.byte_fields.specs.declared.parts.Row.{Row}
use Rattle.filter_api.specs.Spellings.{IsDecided, IsNoSpelling, IsSpelling, Spelling, SpellsOne}
use Rattle.filter_api.specs.declared.errors.FilterFault.{FilterFault}
use Rattle.filter_api.specs.Ranges.{row_settings}
use Rattle.filter_api.specs.declared.settings.Settings.{Settings}
use Rattle.filter_model.specs.Leaves.{Leaf}
use Rattle.map_model.specs.SortedMap.{Bytes}
use Rattle.entry_model.specs.Entries.{Entry, keys_of}
use Rattle.block_model.specs.Block.{IsTable}
use Rattle.block_model.specs.BlockReading.{block_fault}
use Rattle.byte_fields.specs.Faults.{Fault}
use Rattle.range_model.specs.Sources.{Source}
use Rattle.block_model.specs.Index.{AreIndexRanges, IndexRow}
use Rattle.block_model.specs.IndexReading.{index_fault, index_in}
use Rattle.block_model.specs.Laws.{joined}
use Rattle.block_model.specs.Pages.{page_bytes}
use Rattle.block_model.specs.Places.{byte_of_page, filter_page, index_page, pages_of}
use Rattle.table_model.specs.Damage.{IsOfBytes, AreSoundBlocks, HasWidths, IsFilterDamage, IsSoundFilter, block_damage, block_part, filter_part, index_damage, index_part}
use Rattle.table_model.specs.Images.{IsFilterOfKeys, IsTableAt, IsTableOf}
use Rattle.table_model.specs.Tables.{FilterBytes, Table, table_from}
use Rattle.table_model.specs.Written.{ArePartsShown, row_from}

-- the pages of a row spell one table
abbrev pub OneTable : Type 0
OneTable =
    (spelling : Spelling) (row : Row) (t u : Table) (image : Image)
    → IsTableOf spelling row t image → IsTableOf spelling row u image → t ≡ u

-- where the parts of a table of some entries and ranges lie, its row's pages spell the table that is made of them
abbrev pub TableStands : Type 0
TableStands =
    (spelling : Spelling) (filter_bytes : FilterBytes) (settings : Settings) (level first_page : ℕ) (s : Source) (image : Image) → IsTable s.entries
    → AreIndexRanges s.ranges
    → IsFilterOfKeys spelling settings (keys_of s.entries) (filter_bytes settings (keys_of s.entries))
    → ArePartsShown (row_from level first_page settings s (filter_bytes settings (keys_of s.entries))) s (filter_bytes settings (keys_of s.entries)) image
    → IsTableOf spelling (row_from level first_page settings s (filter_bytes settings (keys_of s.entries))) (table_from filter_bytes settings level first_page s) image

-- ---- what is written apart from a row's pages, done or cut short

abbrev pub IsApartFromRow : ℕ → ℕ → Row → Type 0
IsApartFromRow at n row = IsApart (byte_of_page row.first_page) (page_bytes * pages_of row) at n

abbrev pub TableIsKept : Type 0
TableIsKept =
    (spelling : Spelling) (row : Row) (t : Table) (at n : ℕ) (old new : Image) → IsApartFromRow at n row
    → Torn at n old new → IsTableOf spelling row t old → IsTableOf spelling row t new

-- ---- what is wrong with one

-- a table's parts have no damage
abbrev pub IndexHasNone : Type 0
IndexHasNone =
    (spelling : Spelling) (row : Row) (blocks : List (List Entry)) (image : Image) → IsTableAt spelling row blocks image
    → index_damage row image ≡ None

abbrev pub BlocksHaveNone : Type 0
BlocksHaveNone =
    (spelling : Spelling) (row : Row) (blocks : List (List Entry)) (image : Image) → IsTableAt spelling row blocks image
    → AreSoundBlocks row.first_page (index_in (index_part row image)).rows image

abbrev pub FilterHasNone : Type 0
FilterHasNone =
    (spelling : Spelling) (row : Row) (blocks : List (List Entry)) (image : Image) → IsTableAt spelling row blocks image
    → IsSoundFilter spelling row image

-- and its filter stands for its keys
abbrev pub FilterIsOfTheKeys : Type 0
FilterIsOfTheKeys =
    (spelling : Spelling) (row : Row) (blocks : List (List Entry)) (image : Image) → IsTableAt spelling row blocks image
    → IsFilterOfKeys spelling (row_settings row) (keys_of (joined blocks)) (filter_part row image)

-- a filter that spells one list at most has one damage, or none
abbrev pub OneFilterDamage : Type 0
OneFilterDamage =
    (spelling : Spelling) (first_fault : Bytes → FilterFault) (row : Row) (image : Image) (d e : Damage) → SpellsOne spelling
    → IsFilterDamage spelling first_fault row image d → IsFilterDamage spelling first_fault row image e → d ≡ e

abbrev pub SoundFilterHasNone : Type 0
SoundFilterHasNone =
    (spelling : Spelling) (first_fault : Bytes → FilterFault) (row : Row) (image : Image) (d : Damage) → SpellsOne spelling
    → IsSoundFilter spelling row image → IsFilterDamage spelling first_fault row image d → ⊥

-- a filter is sound or has a damage, where its kind can tell
abbrev pub FilterIsSoundOrDamaged : Type 0
FilterIsSoundOrDamaged =
    (spelling : Spelling) (first_fault : Bytes → FilterFault) (row : Row) (image : Image) → IsDecided spelling → IsOfBytes image
    → IsSoundFilter spelling row image ⊎ ((d : Damage) × IsFilterDamage spelling first_fault row image d)

-- Another sum is what is wrong with an index, whatever its rules: at its first byte, the kept sum before the seen one. Where
-- the sum is the kept one it is the first broken rule, at its place after that byte. So it is with a block.
pub record IndexDamageIsPlaced (row : Row) (image : Image) : Type 0 where
  pub sum :
      row.index_sum ≢ fnv_of (index_part row image)
      → index_damage row image ≡ Some (damage.Sum part.Index (byte_of_page (index_page row)) row.index_sum (fnv_of (index_part row image)))
  pub rule :
      (f : Fault) → row.index_sum ≡ fnv_of (index_part row image) → index_fault row.data_pages (index_part row image) ≡ Some f
      → index_damage row image ≡ Some (damage.Shape part.Index (byte_of_page (index_page row) + f.place) f.rule)

pub record BlockDamageIsPlaced (page : ℕ) (row : IndexRow) (image : Image) : Type 0 where
  pub sum :
      row.sum ≢ fnv_of (block_part page row image)
      → block_damage page row image ≡ Some (damage.Sum part.Block (byte_of_page page) row.sum (fnv_of (block_part page row image)))
  pub rule :
      (f : Fault) → row.sum ≡ fnv_of (block_part page row image) → block_fault (block_part page row image) ≡ Some f
      → block_damage page row image ≡ Some (damage.Shape part.Block (byte_of_page page + f.place) f.rule)

abbrev pub IndexRules : Type 0
IndexRules = (row : Row) (image : Image) → IndexDamageIsPlaced row image

abbrev pub BlockRules : Type 0
BlockRules = (page : ℕ) (row : IndexRow) (image : Image) → BlockDamageIsPlaced page row image

-- So it is with a filter, whose first fault is that of its kind. The damage of other leaves is said at byte 12 of a filter,
-- that of other widths at byte 5.
pub record FilterRulesArePlaced (spelling : Spelling) (first_fault : Bytes → FilterFault) (row : Row) (image : Image) : Type 0 where
  pub sum :
      row.filter_sum ≢ fnv_of (filter_part row image)
      → IsFilterDamage spelling first_fault row image (damage.Sum part.Filter (byte_of_page (filter_page row)) row.filter_sum (fnv_of (filter_part row image)))
  pub rule :
      row.filter_sum ≡ fnv_of (filter_part row image) → IsNoSpelling spelling (filter_part row image)
      → IsFilterDamage spelling first_fault row image
      (damage.Shape part.Filter (byte_of_page (filter_page row) + (first_fault (filter_part row image)).place) (first_fault (filter_part row image)).rule)
  pub leaves :
      (hash_bits real_bits cutoff : ℕ) (leaves : List Leaf) → row.filter_sum ≡ fnv_of (filter_part row image)
      → IsSpelling spelling hash_bits real_bits cutoff leaves (filter_part row image) → length leaves ≢ row.entries
      → IsFilterDamage spelling first_fault row image (damage.Shape part.Filter (byte_of_page (filter_page row) + 12) 11)
  pub widths :
      (hash_bits real_bits cutoff : ℕ) (leaves : List Leaf) → row.filter_sum ≡ fnv_of (filter_part row image)
      → IsSpelling spelling hash_bits real_bits cutoff leaves (filter_part row image) → length leaves ≡ row.entries
      → (HasWidths row hash_bits real_bits → ⊥)
      → IsFilterDamage spelling first_fault row image (damage.Shape part.Filter (byte_of_page (filter_page row) + 5) 12)

abbrev pub FilterRules : Type 0
FilterRules =
    (spelling : Spelling) (first_fault : Bytes → FilterFault) (row : Row) (image : Image)
    → FilterRulesArePlaced spelling first_fault row image
