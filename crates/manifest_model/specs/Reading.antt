-- What is read from the bytes of a body, and the first rule that they break. Bytes behind the sum are not looked at.
use Rattle.std.specs.Prelude.{ℕ, zero, suc, ◌+◌, ◌*◌, nat_lt, ◌==◌, Bool, not, ◌&&◌, ◌||◌, List, [], ◌∷◌, take, drop, slice_index, position, Option, Some, None, if◌then◌else◌}
use Rattle.std.specs.List.{list_any}
use Rattle.std.specs.Option.{option_map, option_or}
use Rattle.byteorder.specs.Endian.{little_number}
use Rattle.byte_fields.specs.Fields.{numbers_in}
use Rattle.byte_fields.specs.Sums.{fnv_of}
use Rattle.byte_fields.specs.declared.parts.Row.{Row}
use Rattle.byte_fields.specs.declared.parts.Damage.{Damage}
use Rattle.byte_fields.specs.declared.parts.Damage.TheVariants as damage
use Rattle.byte_fields.specs.declared.parts.Part.TheVariants as part
use Rattle.key_base.specs.Limits.{first_table_page, log_pages, max_device_pages, max_hash_bits, max_level, max_real_bits, max_tables, min_device_pages}
use Rattle.map_model.specs.SortedMap.{Bytes}
use Rattle.byte_fields.specs.Faults.{Fault, fault, refuse}
use Rattle.block_model.specs.Pages.{pages_for}
use Rattle.block_model.specs.Places.{end_page}
use Rattle.filter_api.specs.declared.settings.Settings.{Settings}
use Rattle.manifest_model.specs.Version.{Version, by_format, log_page_of, manifest_magic, row_widths, body_place}

-- ---- the version that is read

abbrev pub table_count_in : Bytes → ℕ
table_count_in bytes = little_number 2 (drop 6 bytes)

-- the format of the body
abbrev pub body_format : Bytes → ℕ
body_format bytes = little_number 2 (drop 4 bytes)

-- the settings in the head
abbrev pub head_settings : Bytes → Settings
head_settings bytes = record { hash_bits = slice_index bytes 20; real_bits = slice_index bytes 21; ratio = little_number 2 (drop 22 bytes) }

-- a row by its numbers; in format 1 with the settings in the head
abbrev pub row_of : ℕ → Settings → List ℕ → Row
row_of format head ns = record {
  level = slice_index ns 0;
  first_page = slice_index ns 2;
  data_pages = slice_index ns 3;
  index_pages = slice_index ns 4;
  filter_pages = slice_index ns 5;
  entries = slice_index ns 6;
  index_len = slice_index ns 7;
  filter_len = slice_index ns 8;
  index_sum = slice_index ns 9;
  filter_sum = slice_index ns 10;
  hash_bits = by_format format head.hash_bits (slice_index ns 11);
  real_bits = by_format format head.real_bits (slice_index ns 12);
  ratio = by_format format head.ratio (slice_index ns 13);
}

unfoldable pub table_row_in : ℕ → Settings → Bytes → Row
table_row_in format head rest = row_of format head (numbers_in row_widths rest)

unfoldable pub table_rows_in : ℕ → Settings → ℕ → Bytes → List Row
table_rows_in format head zero rest = []
table_rows_in format head (suc more) rest = table_row_in format head rest ∷ table_rows_in format head more (drop 64 rest)

unfoldable pub version_in : Bytes → Version
version_in bytes = record {
  epoch = little_number 8 (drop 8 bytes);
  pages = little_number 4 (drop 16 bytes);
  hash_bits = slice_index bytes 20;
  real_bits = slice_index bytes 21;
  ratio = little_number 2 (drop 22 bytes);
  log_page = little_number 4 (drop 24 bytes);
  rows = table_rows_in (body_format bytes) (head_settings bytes) (table_count_in bytes) (drop 64 bytes);
}

-- ---- before the sum: 1, the magic; 2, another format than 1 and 2; 3, more tables than the most

abbrev pub is_no_format : ℕ → Bool
is_no_format format = not (format == 1) && not (format == 2)

unfoldable pub early_fault : Bytes → Option Fault
early_fault bytes =
    refuse (not (little_number 4 bytes == manifest_magic)) 0 1
    (refuse (is_no_format (body_format bytes)) 4 2
    (refuse (nat_lt max_tables (table_count_in bytes)) 6 3
    None))

-- ---- the sum: the one that is kept behind the rows, and the one of all bytes before it

unfoldable pub prefix_length_in : Bytes → ℕ
prefix_length_in bytes = 64 + 64 * table_count_in bytes

abbrev pub kept_sum : Bytes → ℕ
kept_sum bytes = little_number 8 (drop (prefix_length_in bytes) bytes)

abbrev pub seen_sum : Bytes → ℕ
seen_sum bytes = fnv_of (take (prefix_length_in bytes) bytes)

-- ---- 4 to 6: the epoch, the pages and the settings of the head, those of the rows, the log area

abbrev pub are_no_pages : ℕ → Bool
are_no_pages pages = nat_lt pages min_device_pages || nat_lt max_device_pages pages

abbrev pub is_no_log_page : ℕ → Bool
is_no_log_page page = not (page == log_page_of 0) && not (page == log_page_of 1)

unfoldable pub numbers_fault : Bytes → Option Fault
numbers_fault bytes =
    refuse (little_number 8 (drop 8 bytes) == 0) 8 4
    (refuse (are_no_pages (little_number 4 (drop 16 bytes))) 16 5
    (refuse (nat_lt max_hash_bits (slice_index bytes 20)) 20 5
    (refuse (nat_lt max_real_bits (slice_index bytes 21)) 21 5
    None)))

-- row by row; in format 1 they are those of the head, which were looked at before
unfoldable pub settings_fault : ℕ → List Row → Option Fault
settings_fault place [] = None
settings_fault place (row ∷ later) =
    refuse (nat_lt max_hash_bits row.hash_bits) (place + 56) 5
    (refuse (nat_lt max_real_bits row.real_bits) (place + 57) 5
    (settings_fault (place + 64) later))

unfoldable pub log_area_fault : Bytes → Option Fault
log_area_fault bytes =
    refuse (is_no_log_page (little_number 4 (drop 24 bytes))) 24 6
    (refuse (not (little_number 4 (drop 28 bytes) == log_pages)) 28 6
    None)

-- ---- 7: a byte that must be 0, in the head and then row by row

unfoldable pub zeros_fault : ℕ → Bytes → Option Fault
zeros_fault place bytes = option_map (λ k. fault (place + k) 7) (position (λ b. not (b == 0)) bytes)

-- the last of a row, from the first on that names no setting
abbrev pub last_zeros_fault : ℕ → ℕ → Bytes → Option Fault
last_zeros_fault format place row = zeros_fault (place + by_format format 56 60) (take (by_format format 8 4) (drop (by_format format 56 60) row))

unfoldable pub row_zeros_fault : ℕ → ℕ → ℕ → Bytes → Option Fault
row_zeros_fault format zero place rest = None
row_zeros_fault format (suc more) place rest =
    option_or (zeros_fault (place + 1) (take 3 (drop 1 rest)))
    (option_or (last_zeros_fault format place rest)
    (row_zeros_fault format more (place + 64) (drop 64 rest)))

-- ---- 8: a row's level, data pages, index pages, filter pages or entries, row by row

unfoldable pub table_row_fault : ℕ → Row → Option Fault
table_row_fault place row =
    refuse (nat_lt max_level row.level) place 8
    (refuse (row.data_pages == 0) (place + 8) 8
    (refuse (not (row.index_pages == pages_for row.index_len)) (place + 12) 8
    (refuse (not (row.filter_pages == pages_for row.filter_len)) (place + 16) 8
    (refuse (row.entries == 0) (place + 20) 8
    None))))

unfoldable pub table_rows_fault : ℕ → List Row → Option Fault
table_rows_fault place [] = None
table_rows_fault place (row ∷ later) = option_or (table_row_fault place row) (table_rows_fault (place + 64) later)

-- ---- 9: a row of a lesser level than the one before

unfoldable pub levels_fault : ℕ → ℕ → List Row → Option Fault
levels_fault place before [] = None
levels_fault place before (row ∷ later) = refuse (nat_lt row.level before) place 9 (levels_fault (place + 64) row.level later)

-- ---- 10: a table leaves the pages from the first of tables to the end of the device, or meets one of an earlier row

abbrev pub leaves : ℕ → Row → Bool
leaves pages row = nat_lt row.first_page first_table_page || nat_lt pages (end_page row)

abbrev pub meets_row : Row → Row → Bool
meets_row row other = nat_lt row.first_page (end_page other) && nat_lt other.first_page (end_page row)

unfoldable pub extents_fault : ℕ → ℕ → List Row → List Row → Option Fault
extents_fault pages place earlier [] = None
extents_fault pages place earlier (row ∷ later) =
    refuse (leaves pages row || list_any (meets_row row) earlier) (place + 4) 10 (extents_fault pages (place + 64) (row ∷ earlier) later)

-- ---- the rules, in their order

abbrev pub of_version : Version → Option Fault
of_version v = option_or (table_rows_fault 64 v.rows) (option_or (levels_fault 64 0 v.rows) (extents_fault v.pages 64 [] v.rows))

-- behind the sum
unfoldable pub later_fault : Bytes → Option Fault
later_fault bytes =
    option_or (numbers_fault bytes)
    (option_or (settings_fault 64 (version_in bytes).rows)
    (option_or (log_area_fault bytes)
    (option_or (zeros_fault 32 (take 32 (drop 32 bytes)))
    (option_or (row_zeros_fault (body_format bytes) (table_count_in bytes) 64 (drop 64 bytes))
    (of_version (version_in bytes))))))

-- the damage of a body that stands in a slot, by its place on the device
abbrev pub shape_at : ℕ → Option Fault → Option Damage → Option Damage
shape_at slot (Some found) later = Some (damage.Shape part.Manifest (body_place slot + found.place) found.rule)
shape_at slot None later = later

unfoldable pub sum_damage : ℕ → Bytes → Option Damage → Option Damage
sum_damage slot bytes later = if kept_sum bytes == seen_sum bytes then later else Some (damage.Sum part.Manifest (body_place slot) (kept_sum bytes) (seen_sum bytes))

unfoldable pub body_damage : ℕ → Bytes → Option Damage
body_damage slot bytes = shape_at slot (early_fault bytes) (sum_damage slot bytes (shape_at slot (later_fault bytes) None))
