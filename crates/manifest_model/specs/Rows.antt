-- What the rules say of the rows of a version: of each by itself, of their levels, and of where their tables lie.
use Rattle.std.specs.Prelude.{◌≡◌, ◌≤◌, ℕ, List, map, None}
use Rattle.std.specs.List.{AllByRecursion, AllPairs}
use Rattle.key_base.specs.Limits.{max_level}
use Rattle.byte_fields.specs.declared.parts.Row.{Row}
use Rattle.block_model.specs.Pages.{pages_for}
use Rattle.block_model.specs.Places.{FitsDevice, pages_of}
use Rattle.extent_model.specs.Extents.{AreLaid, Extent}
use Rattle.manifest_model.specs.Laws.{IsVersion}
use Rattle.manifest_model.specs.Reading.{of_version}
use Rattle.manifest_model.specs.Version.{Version}

-- a level from 0 to the last, blocks, an index and a filter in the pages that their lengths want, and entries
pub record IsTableRow (row : Row) : Type 0 where
  pub level : row.level ≤ max_level
  pub data_pages : 1 ≤ row.data_pages
  pub index_pages : row.index_pages ≡ pages_for row.index_len
  pub filter_pages : row.filter_pages ≡ pages_for row.filter_len
  pub entries : 1 ≤ row.entries

-- the pages of a row's table
abbrev pub extent_of : Row → Extent
extent_of row = (row.first_page, pages_of row)

abbrev pub IsNoDeeper : Row → Row → Type 0
IsNoDeeper row later = row.level ≤ later.level

-- each row is one of a table, levels do not fall, and the tables lie apart on a device of so many pages
pub record AreTableRows (pages : ℕ) (rows : List Row) : Type 0 where
  pub each : AllByRecursion IsTableRow rows
  pub levels : AllPairs IsNoDeeper rows
  pub laid : AreLaid pages (map extent_of rows)

-- ---- laws

-- the rows of a version break none of rules 8 to 10 exactly where they are so
pub record RowsKeepTheRules : Type 0 where
  pub kept : (v : Version) → of_version v ≡ None → AreTableRows v.pages v.rows
  pub unbroken : (v : Version) → AreTableRows v.pages v.rows → of_version v ≡ None

-- so each table of a version that keeps the rules fits a device
abbrev pub TablesFitDevice : Type 0
TablesFitDevice = (v : Version) → IsVersion v → AllByRecursion FitsDevice v.rows
