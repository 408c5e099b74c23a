-- Where the parts of a table stand on a device, by its row: its blocks, its index and its filter, one after the other.
use Rattle.std.specs.Prelude.{◌≡◌, ◌≤◌, ℕ, ◌+◌, ◌*◌}
use Rattle.byte_fields.specs.declared.parts.Row.{Row}
use Rattle.key_base.specs.Limits.{max_device_pages}
use Rattle.block_model.specs.Pages.{page_bytes, pages_for}

-- the byte at which a page begins
abbrev pub byte_of_page : ℕ → ℕ
byte_of_page page = page_bytes * page

-- the pages at which the index and the filter begin, and the one behind the table
abbrev pub index_page : Row → ℕ
index_page row = row.first_page + row.data_pages

abbrev pub filter_page : Row → ℕ
filter_page row = row.first_page + row.data_pages + row.index_pages

-- how many pages the table has
abbrev pub pages_of : Row → ℕ
pages_of row = row.data_pages + row.index_pages + row.filter_pages

abbrev pub end_page : Row → ℕ
end_page row = row.first_page + pages_of row

-- the table lies within the largest device, and index and filter have the pages that their lengths want
pub record FitsDevice (row : Row) : Type 0 where
  pub index_pages : row.index_pages ≡ pages_for row.index_len
  pub filter_pages : row.filter_pages ≡ pages_for row.filter_len
  pub within : end_page row ≤ max_device_pages
