-- What is done with an output that is built.
use Rattle.std.specs.Prelude.{◌≡◌, ◌≢◌, ◌⊎◌, ◌<◌, ◌-◌, ◌*◌, ℕ, List, [], ◌∷◌, ◌++◌, length, slice_index_or, Some}
use Rattle.std.specs.List.{AllByRecursion}
use Rattle.std.specs.List.Sorted.{IsPermutation}
use Rattle.block_model.specs.Block.{IsTable}
use Rattle.block_model.specs.Places.{byte_of_page, pages_of}
use Rattle.block_model.specs.Pages.{page_bytes}
use Rattle.byte_fields.specs.declared.parts.Row.{Row}
use Rattle.disk_trait.specs.World.{ReadMoves, Rose, World, WriteMoves}
use Rattle.disk_trait.specs.declared.fault.Op.TheVariants.{Read}
use Rattle.extent_map.specs.Taken.{Taken}
use Rattle.extent_model.specs.Extents.{AreApart, Extent, IsOnDevice}
use Rattle.extent_model.specs.Gaps.{first_gap, largest_gap}
use Rattle.filter_api.specs.Spellings.{Spelling}
use Rattle.filter_model.specs.Leaves.{Leaf}
use Rattle.level_merge.specs.declared.fault.JobFault.{JobFault}
use Rattle.level_merge.specs.declared.fault.JobFault.TheVariants as fault
use Rattle.table_file.specs.Building.{Built, source_in}
use Rattle.table_file.specs.Writing.{made_row}
use Rattle.table_model.specs.Tables.{Table, filter_bytes_of, source_pages, table_from}

-- the extent of a row
abbrev pub extent_at : Row → Extent
extent_at row = (row.first_page, pages_of row)

-- the table that it becomes on a level, at a page
abbrev pub built_table : Spelling → (ℕ → List Leaf → ℕ) → Built → ℕ → ℕ → Table
built_table spelling built_cutoff built level page = table_from (filter_bytes_of spelling built_cutoff) built.settings level page (source_in built)

-- Its place is the first gap that holds it, its pages are taken, and its row is the last of some rows. It has the entries of a
-- table.
pub record PlacesOutput (spelling : Spelling) (built_cutoff : ℕ → List Leaf → ℕ) (built : Built) (level : ℕ) (old new : List Row) (free taken : Taken) (row : Row) : Type 0 where
  pub place : first_gap free.pages free.extents (source_pages (filter_bytes_of spelling built_cutoff) built.settings (source_in built)) ≡ Some row.first_page
  pub row_is : row ≡ made_row spelling built_cutoff built level row.first_page
  pub pages_are : pages_of row ≡ source_pages (filter_bytes_of spelling built_cutoff) built.settings (source_in built)
  pub table : IsTable built.entries
  pub on_device : IsOnDevice free.pages (extent_at row)
  pub apart : AllByRecursion (AreApart (extent_at row)) free.extents
  pub taken_is : IsPermutation (extent_at row ∷ free.extents) taken.extents
  pub pages : taken.pages ≡ free.pages
  pub outputs : new ≡ old ++ row ∷ []

-- nothing is written and no extent is added, or it has its place and the device was written there alone
abbrev pub WritesPlaced : Spelling → (ℕ → List Leaf → ℕ) → Built → ℕ → List Row → List Row → Taken → Taken → World → World → Type 0
WritesPlaced spelling built_cutoff built level old new free taken before after =
    ((new ≡ old) × (taken ≡ free) × ReadMoves 0 before after)
    ⊎ ((row : Row) × PlacesOutput spelling built_cutoff built level old new free taken row × WriteMoves (byte_of_page row.first_page) (page_bytes * pages_of row) before after)

-- memory, a write or a sync that failed once there was a place, or no room
abbrev pub IsCloseFault : ℕ → Taken → World → World → JobFault → Type 0
IsCloseFault need free old new fault.Memory = Unit {0}
IsCloseFault need free old new (fault.Device cause) =
    (cause.op ≢ Read) × ((page : ℕ) × (first_gap free.pages free.extents need ≡ Some page)) × Rose old.seen.write_faults new.seen.write_faults
IsCloseFault need free old new (fault.Damaged d) = ⊥
IsCloseFault need free old new (fault.Full wanted gap) = (wanted ≡ need) × (gap ≡ largest_gap free.pages free.extents) × (gap < need)

-- the last of some rows
abbrev pub no_row : Row
no_row = record { level = 0; first_page = 0; data_pages = 0; index_pages = 0; filter_pages = 0; entries = 0; index_len = 0; filter_len = 0; index_sum = 0; filter_sum = 0; hash_bits = 0; real_bits = 0; ratio = 64 }

abbrev pub last_row : List Row → Row
last_row rows = slice_index_or rows (length rows - 1) no_row
