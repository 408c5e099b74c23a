-- The row of a table that is written, and what is in its pages then.
use Rattle.std.specs.Prelude.{ℕ, List, length}
use Rattle.disk_trait.specs.Image.{Image, Shows}
use Rattle.byte_fields.specs.Sums.{fnv_of}
use Rattle.byte_fields.specs.declared.parts.Row.{Row}
use Rattle.filter_api.specs.declared.settings.Settings.{Settings}
use Rattle.map_model.specs.SortedMap.{Bytes}
use Rattle.entry_model.specs.Entries.{Entry}
use Rattle.range_model.specs.Sources.{Source, alone}
use Rattle.block_model.specs.Block.{data_bytes}
use Rattle.block_model.specs.Index.{index_bytes, index_with}
use Rattle.block_model.specs.Pages.{data_pages, index_length_with, pages_for}
use Rattle.block_model.specs.Places.{byte_of_page, filter_page, index_page}

-- where it begins, what is kept of its parts, and the settings that its filter was built with
unfoldable pub row_from : ℕ → ℕ → Settings → Source → Bytes → Row
row_from level first_page settings s filter_bytes = record {
  level = level;
  first_page = first_page;
  data_pages = data_pages s.entries;
  index_pages = pages_for (index_length_with s.entries s.ranges);
  filter_pages = pages_for (length filter_bytes);
  entries = length s.entries;
  index_len = index_length_with s.entries s.ranges;
  filter_len = length filter_bytes;
  index_sum = fnv_of (index_bytes (index_with s.entries s.ranges));
  filter_sum = fnv_of filter_bytes;
  hash_bits = settings.hash_bits;
  real_bits = settings.real_bits;
  ratio = settings.ratio;
}

-- that of entries and no range
abbrev pub row_for : ℕ → ℕ → Settings → List Entry → Bytes → Row
row_for level first_page settings entries filter_bytes = row_from level first_page settings (alone entries) filter_bytes

-- its blocks, its index and its filter, each at its page
pub record ArePartsShown (row : Row) (s : Source) (filter_bytes : Bytes) (image : Image) : Type 0 where
  pub blocks : Shows (byte_of_page row.first_page) (data_bytes s.entries) image
  pub index : Shows (byte_of_page (index_page row)) (index_bytes (index_with s.entries s.ranges)) image
  pub filter : Shows (byte_of_page (filter_page row)) filter_bytes image
