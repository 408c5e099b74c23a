-- A table that is opened: its row, its index and its filter, and what must be in its pages.
use Rattle.std.specs.Prelude.{◌≡◌, length, None}
use Rattle.byte_fields.specs.Sums.{fnv_of}
use Rattle.byte_fields.specs.declared.parts.Row.{Row}
use Rattle.disk_trait.specs.Image.{Image}
use Rattle.filter_api.specs.Ranges.{IsRowInRange}
use Rattle.filter_api.specs.Spellings.{IsSpelling, Spelling}
use Rattle.block_model.specs.Index.{Index, row_pages}
use Rattle.block_model.specs.IndexReading.{index_fault, index_in}
use Rattle.block_model.specs.Places.{FitsDevice}
use Rattle.table_model.specs.Damage.{HasWidths, IsSoundFilter, filter_part, index_damage, index_part}
use Rattle.filter_model.specs.Leaves.{Filter}

pub record Opened : Type 0 where
  pub row : Row
  pub index : Index
  pub filter : Filter

-- the blocks have as many pages as the row says, and its settings are in range
pub record IsOfRow (t : Opened) : Type 0 where
  pub fits : FitsDevice t.row
  pub range : IsRowInRange t.row
  pub pages : row_pages t.index.rows ≡ t.row.data_pages

-- an index that was read, with the row that names it
pub record RowIndex : Type 0 where
  pub row : Row
  pub index : Index

-- the table is within the largest device, and its blocks have as many pages as the row says
pub record IsIndexOfRow (x : RowIndex) : Type 0 where
  pub fits : FitsDevice x.row
  pub pages : row_pages x.index.rows ≡ x.row.data_pages

-- the index of a row has no damage, since it keeps its sum and its rules, and this is what its bytes say
pub record IsReadIndex (row : Row) (image : Image) (x : RowIndex) : Type 0 where
  pub none : index_damage row image ≡ None
  pub sum : row.index_sum ≡ fnv_of (index_part row image)
  pub kept : index_fault row.data_pages (index_part row image) ≡ None
  pub index_is : x.index ≡ index_in (index_part row image)

-- the filter of a row is sound, and this is what its bytes spell
pub record IsReadFilter (spelling : Spelling) (row : Row) (image : Image) (f : Filter) : Type 0 where
  pub sound : IsSoundFilter spelling row image
  pub leaves_are : sound.leaves ≡ f.leaves
  pub filter_is : IsSpelling spelling f.hash_bits f.real_bits f.cutoff f.leaves (filter_part row image)

-- index and filter keep their sums and rules and the row's counts and widths, and these are they
pub record IsOpen (spelling : Spelling) (t : Opened) (image : Image) : Type 0 where
  pub index_sum : t.row.index_sum ≡ fnv_of (index_part t.row image)
  pub index_kept : index_fault t.row.data_pages (index_part t.row image) ≡ None
  pub index_is : t.index ≡ index_in (index_part t.row image)
  pub filter_sum : t.row.filter_sum ≡ fnv_of (filter_part t.row image)
  pub filter_is : IsSpelling spelling t.filter.hash_bits t.filter.real_bits t.filter.cutoff t.filter.leaves (filter_part t.row image)
  pub many : length t.filter.leaves ≡ t.row.entries
  pub wide : HasWidths t.row t.filter.hash_bits t.filter.real_bits
