-- What a merge slice does of its merge.
use Rattle.std.specs.Prelude.{◌≡◌, ◌≢◌, ◌⊎◌, ◌<◌, ◌≤◌, ◌+◌, ◌-◌, ◌*◌, ℕ, Bool, true, List, [], ◌∷◌, ◌++◌, length, Option, Some, None, IsTrue}
use Rattle.std.specs.List.{AllByRecursion}
use Rattle.std.specs.List.Sorted.{IsPermutation}
use Rattle.block_model.specs.Block.{IsTable}
use Rattle.block_model.specs.Places.{byte_of_page, pages_of}
use Rattle.block_model.specs.Pages.{page_bytes}
use Rattle.byte_fields.specs.declared.parts.Row.{Row}
use Rattle.disk_trait.specs.Image.{Image}
use Rattle.disk_trait.specs.World.{Moves, Rose, World}
use Rattle.disk_trait.specs.declared.fault.Op.TheVariants.{Read}
use Rattle.entry_model.specs.Entries.{Entry}
use Rattle.extent_map.specs.Taken.{Taken}
use Rattle.extent_model.specs.Extents.{AreApart, Extent, IsOnDevice}
use Rattle.extent_model.specs.Gaps.{largest_gap}
use Rattle.filter_api.specs.Spellings.{Spelling}
use Rattle.filter_api.specs.declared.settings.Settings.{Settings}
use Rattle.filter_model.specs.Leaves.{Leaf}
use Rattle.level_merge.specs.Outputs.{PlacesOutput, WritesPlaced, built_table, extent_at}
use Rattle.level_merge.specs.JobValue.{JobValue, is_full, outputs_left, outputs_with}
use Rattle.level_merge.specs.declared.fault.JobFault.{JobFault}
use Rattle.level_merge.specs.declared.fault.JobFault.TheVariants as fault
use Rattle.level_merge.specs.declared.fault.Sliced.{Sliced}
use Rattle.level_merge.specs.declared.fault.Sliced.TheVariants as sliced
use Rattle.level_merge.specs.declared.taking.Stop.{Stop}
use Rattle.level_merge.specs.declared.taking.Stop.TheVariants as stop
use Rattle.merge_rows.specs.Merges.{Merge, TableWalk, merged_left, rows_left}
use Rattle.merge_rows.specs.Reads.{AreAtEnd, OnlyReads, PassSound, SomeBlock, blocks_left, next_numbers}
use Rattle.merge_rows.specs.Steps.{IsSoundMerge, SourcesStay}
use Rattle.state_model.specs.Merges.{lasting}
use Rattle.table_file.specs.Faults.{IsBlockDamage}
use Rattle.table_file.specs.Building.{Built}
use Rattle.table_file.specs.Opened.{Opened}
use Rattle.table_file.specs.Search.{IsGetFault}
use Rattle.table_file.specs.Writing.{made_row, opened_of}
use Rattle.table_file.specs.declared.fault.TableFault.TheVariants as table
use Rattle.table_model.specs.Tables.{FilterBytes, Table, filter_bytes_of, table_pages}

-- ---- rows

-- blocks were read at most, and no row was passed
pub record KeepsRows (tells : Bool) (tables : List Opened) (image : Image) (old new : Merge) : Type 0 where
  pub sources : SourcesStay tells tables image old new
  pub floor_is : new.floor ≡ old.floor
  pub left : IsTrue tells → merged_left new tables image ≡ merged_left old tables image

-- how many blocks may still be read, where the next row needs none
abbrev pub left_of : Option ℕ → ℕ
left_of None = 0
left_of (Some left) = left

-- Why rows were taken no further: some blocks were read, and more are left; the output is full; or no row is left.
abbrev pub IsStop : Bool → ℕ → List Opened → Image → ℕ → Merge → Merge → List Entry → Stop → Type 0
IsStop tells blocks tables image beside old new built stop.Blocks = (0 < blocks → blocks_left tables new.walks < blocks_left tables old.walks) × (1 ≤ blocks_left tables new.walks)
IsStop tells blocks tables image beside old new built stop.Full = is_full beside built ≡ true
IsStop tells blocks tables image beside old new built stop.End = IsTrue tells → IsSoundMerge old tables image → rows_left new tables image ≡ []

-- Where no row is left each walk is at its end: no block was left out.
abbrev pub StopsAtEnd : List Opened → Merge → Stop → Type 0
StopsAtEnd tables m stop.Blocks = Unit {0}
StopsAtEnd tables m stop.Full = Unit {0}
StopsAtEnd tables m stop.End = AreAtEnd tables m.walks

-- Each block that was passed is sound, whatever the others are; and where none may be read, none was passed.
pub record PassesBlocks (tells : Bool) (tables : List Opened) (image : Image) (blocks : ℕ) (old new : List TableWalk) : Type 0 where
  pub sound : IsTrue tells → PassSound tables image old new
  pub none : blocks ≡ 0 → IsTrue tells → next_numbers new ≡ next_numbers old

-- Rows went from a merge into an output, and the same outputs are still made, where that many may come beside it.
pub record FillsOutput (tells : Bool) (tables : List Opened) (image : Image) (beside : ℕ) (drops : Bool) (old new : Merge) (before after : List Entry) : Type 0 where
  pub left : IsTrue tells → IsSoundMerge old tables image
      → outputs_with beside after (lasting drops (rows_left new tables image)) ≡ outputs_with beside before (lasting drops (rows_left old tables image))
  pub fewer : blocks_left tables new.walks ≤ blocks_left tables old.walks

-- Rows were taken: of the same tables, into the same output, and the same outputs are still made.
pub record TakesRows (tells : Bool) (tables : List Opened) (image : Image) (old new : JobValue) : Type 0 where
  pub sources : SourcesStay tells tables image old.merge new.merge
  pub rest : new ≡ record old { merge = new.merge; built = new.built }
  pub left : IsTrue tells → IsSoundMerge old.merge tables image → outputs_left new tables image ≡ outputs_left old tables image
  pub fewer : blocks_left tables new.merge.walks ≤ blocks_left tables old.merge.walks

-- memory, a read that failed, or damage of a block of a table of these numbers
abbrev pub IsTakeFault : Bool → List Opened → List ℕ → World → World → JobFault → Type 0
IsTakeFault tells tables which old new fault.Memory = Unit {0}
IsTakeFault tells tables which old new (fault.Device cause) = (cause.op ≡ Read) × Rose old.seen.read_faults new.seen.read_faults
IsTakeFault tells tables which old new (fault.Damaged d) = IsBlockDamage d × (IsTrue tells → SomeBlock tables which (λ t n. IsGetFault t n old.seen.held (table.Damaged d)))
IsTakeFault tells tables which old new (fault.Full need gap) = ⊥

-- ---- outputs

-- what is built, with its settings: entries alone
abbrev pub built_of : JobValue → Built
built_of m = record { settings = m.settings; entries = m.built; ranges = [] }

-- the pages that it needs
abbrev pub need_of : Spelling → (ℕ → List Leaf → ℕ) → JobValue → ℕ
need_of spelling built_cutoff m = table_pages (filter_bytes_of spelling built_cutoff) m.settings m.built

-- the table that it is then, at a page, and as it is open
abbrev pub made_table : Spelling → (ℕ → List Leaf → ℕ) → JobValue → ℕ → Table
made_table spelling built_cutoff m page = built_table spelling built_cutoff (built_of m) m.output page

abbrev pub made_opened : (ℕ → List Leaf → ℕ) → JobValue → Row → Opened
made_opened built_cutoff m row = opened_of built_cutoff (built_of m) row

-- the output that is built has a place, and its row is the last of the outputs
abbrev pub Places : Spelling → (ℕ → List Leaf → ℕ) → JobValue → JobValue → Taken → Taken → Row → Type 0
Places spelling built_cutoff old new free taken row = PlacesOutput spelling built_cutoff (built_of old) old.output old.outputs new.outputs free taken row

-- it is written, too, and the next output is begun
pub record Closes (spelling : Spelling) (built_cutoff : ℕ → List Leaf → ℕ) (old new : JobValue) (free taken : Taken) (row : Row) : Type 0 where
  pub placed : Places spelling built_cutoff old new free taken row
  pub new_is : new ≡ record old { beside = old.beside - 1; built = []; outputs = old.outputs ++ row ∷ []; made = old.made ++ made_opened built_cutoff old row ∷ [] }

-- nothing is written and no extent is added, or the output has its place and the device was written there alone
abbrev pub WritesOutput : Spelling → (ℕ → List Leaf → ℕ) → JobValue → JobValue → Taken → Taken → World → World → Type 0
WritesOutput spelling built_cutoff old new free taken before after =
    WritesPlaced spelling built_cutoff (built_of old) old.output old.outputs new.outputs free taken before after

-- ---- a merge slice

-- the row of a table of some entries, with the merge's settings and on its level
pub record IsRowOf (spelling : Spelling) (built_cutoff : ℕ → List Leaf → ℕ) (m : JobValue) (row : Row) : Type 0 where
  pub entries : List Entry
  pub table : IsTable entries
  pub row_is : row ≡ made_row spelling built_cutoff (record { settings = m.settings; entries = entries; ranges = [] }) m.output row.first_page

-- one more output has a place that was free
pub record AddsOutput (spelling : Spelling) (built_cutoff : ℕ → List Leaf → ℕ) (old new : JobValue) (free taken : Taken) (row : Row) : Type 0 where
  pub outputs : new.outputs ≡ old.outputs ++ row ∷ []
  pub row_of : IsRowOf spelling built_cutoff old row
  pub on_device : IsOnDevice free.pages (extent_at row)
  pub apart : AllByRecursion (AreApart (extent_at row)) free.extents
  pub extents : IsPermutation (extent_at row ∷ free.extents) taken.extents
  pub pages : taken.pages ≡ free.pages

-- There is no output more, and blocks alone were read; or there is one, and after the reads its pages alone were written.
abbrev pub SliceMoves : Spelling → (ℕ → List Leaf → ℕ) → JobValue → JobValue → Taken → Taken → World → World → Type 0
SliceMoves spelling built_cutoff old new free taken before after =
    ((new.outputs ≡ old.outputs) × (taken ≡ free) × OnlyReads before after)
    ⊎ ((row : Row) × (most : ℕ) × AddsOutput spelling built_cutoff old new free taken row × Moves (byte_of_page row.first_page) (page_bytes * pages_of row) most before after)

-- as many outputs may be made in all as before, or one more where nothing is left
abbrev pub MayMakeAsMany : JobValue → JobValue → Sliced → Type 0
MayMakeAsMany old new sliced.Working = length new.outputs + new.beside ≡ length old.outputs + old.beside
MayMakeAsMany old new sliced.Ready = length new.outputs ≤ length old.outputs + old.beside + 1

-- On any device: where it works, a block is left to read, or an output with an entry is built; what is ready has none.
abbrev pub SaysWhatIsLeft : List Opened → JobValue → Sliced → Type 0
SaysWhatIsLeft opened m sliced.Working = (1 ≤ blocks_left opened m.merge.walks) ⊎ (0 < length m.built)
SaysWhatIsLeft opened m sliced.Ready = m.built ≡ []

-- What is left after an output that was written: so, and where nothing is left to write, no row is.
abbrev pub LooksOn : Bool → List Opened → Image → JobValue → JobValue → Sliced → Type 0
LooksOn tells opened image old new sliced.Working = SaysWhatIsLeft opened new sliced.Working
LooksOn tells opened image old new sliced.Ready = (new.built ≡ []) × (IsTrue tells → IsSoundMerge old.merge opened image → rows_left new.merge opened image ≡ [])

-- where nothing is left, each walk is at its end
abbrev pub ReadyAtEnd : List Opened → JobValue → Sliced → Type 0
ReadyAtEnd opened m sliced.Working = Unit {0}
ReadyAtEnd opened m sliced.Ready = AreAtEnd opened m.merge.walks

-- a fault of the reads or of the writes
abbrev pub IsSliceFault : Bool → List Opened → List ℕ → World → World → JobFault → Type 0
IsSliceFault tells tables which old new fault.Memory = Unit {0}
IsSliceFault tells tables which old new (fault.Device cause) =
    ((cause.op ≡ Read) × Rose old.seen.read_faults new.seen.read_faults) ⊎ ((cause.op ≢ Read) × Rose old.seen.write_faults new.seen.write_faults)
IsSliceFault tells tables which old new (fault.Damaged d) = IsBlockDamage d × (IsTrue tells → SomeBlock tables which (λ t n. IsGetFault t n old.seen.held (table.Damaged d)))
IsSliceFault tells tables which old new (fault.Full need gap) = gap < need

-- damage is met before anything is written
abbrev pub FailsBeforeWrite : World → World → JobFault → Type 0
FailsBeforeWrite old new fault.Memory = Unit {0}
FailsBeforeWrite old new (fault.Device cause) = Unit {0}
FailsBeforeWrite old new (fault.Damaged d) = new.seen.held ≡ old.seen.held
FailsBeforeWrite old new (fault.Full need gap) = Unit {0}

-- Lack of room: it is that of the pages of an output, which has an entry or more under these settings, and the largest gap beside
-- these extents has fewer.
abbrev pub HasNoRoom : FilterBytes → Settings → ℕ → List Extent → JobFault → Type 0
HasNoRoom filter_bytes settings pages extents fault.Memory = Unit {0}
HasNoRoom filter_bytes settings pages extents (fault.Device cause) = Unit {0}
HasNoRoom filter_bytes settings pages extents (fault.Damaged d) = Unit {0}
HasNoRoom filter_bytes settings pages extents (fault.Full need gap) =
    ((output : List Entry) × (0 < length output) × (need ≡ table_pages filter_bytes settings output)) × (gap ≡ largest_gap pages extents) × (gap < need)
