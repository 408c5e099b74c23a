-- What the manifest says of a store, and the bytes that say it.
use Rattle.std.specs.Prelude.{◌≡◌, ◌⊎◌, ℕ, ◌+◌, ◌*◌, ◌==◌, List, [], ◌∷◌, ◌++◌, length, flat_map, if◌then◌else◌}
use Rattle.std.specs.List.{AllByRecursion}
use Rattle.byteorder.specs.Endian.{little_bytes}
use Rattle.byte_fields.specs.Fields.{fields}
use Rattle.byte_fields.specs.Sums.{fnv_of}
use Rattle.byte_fields.specs.declared.parts.Row.{Row}
use Rattle.key_base.specs.Limits.{log_pages, slot_bytes}
use Rattle.map_model.specs.SortedMap.{Bytes}

-- a version: the settings of new tables, the pages of the device, the epoch, the first page of the log area in use, and a
-- row for each table, which has its own settings
pub record Version : Type 0 where
  pub hash_bits : ℕ
  pub real_bits : ℕ
  pub ratio : ℕ
  pub pages : ℕ
  pub epoch : ℕ
  pub log_page : ℕ
  pub rows : List Row

-- the first page of a log area: area 0 stands behind as many pages, area 1 behind it
abbrev pub log_page_of : ℕ → ℕ
log_page_of area = log_pages * (area + 1)

-- ---- the two formats of a body: in format 1 a row has no settings of its own, in format 2 it has

-- one of two numbers: this in format 1, that in format 2
abbrev pub by_format : ℕ → ℕ → ℕ → ℕ
by_format format this that = if format == 1 then this else that

-- ---- the head

abbrev pub manifest_magic : ℕ
manifest_magic = 0x4D465253

abbrev pub head_widths : List ℕ
head_widths = 4 ∷ 2 ∷ 2 ∷ 8 ∷ 4 ∷ 1 ∷ 1 ∷ 2 ∷ 4 ∷ 4 ∷ 8 ∷ 8 ∷ 8 ∷ 8 ∷ []

-- SRFM, the format, how many tables, the epoch, the pages, the settings, the log area, and 32 bytes 0
abbrev pub head_numbers : ℕ → Version → List ℕ
head_numbers format v =
    manifest_magic ∷ format ∷ length v.rows ∷ v.epoch ∷ v.pages ∷ v.hash_bits ∷ v.real_bits ∷ v.ratio ∷ v.log_page ∷ log_pages ∷ 0 ∷ 0 ∷ 0 ∷ 0 ∷ []

unfoldable pub head_bytes : ℕ → Version → Bytes
head_bytes format v = fields head_widths (head_numbers format v)

-- ---- a row of 64 bytes

abbrev pub row_widths : List ℕ
row_widths = 1 ∷ 3 ∷ 4 ∷ 4 ∷ 4 ∷ 4 ∷ 4 ∷ 8 ∷ 8 ∷ 8 ∷ 8 ∷ 1 ∷ 1 ∷ 2 ∷ 4 ∷ []

-- the level and three bytes 0, the first page and the pages of each part, the entries, lengths and sums, the settings, which
-- are 0 in format 1, and four bytes 0
abbrev pub row_numbers : ℕ → Row → List ℕ
row_numbers format r =
    r.level ∷ 0 ∷ r.first_page ∷ r.data_pages ∷ r.index_pages ∷ r.filter_pages ∷ r.entries ∷ r.index_len ∷ r.filter_len ∷ r.index_sum ∷ r.filter_sum
    ∷ by_format format 0 r.hash_bits ∷ by_format format 0 r.real_bits ∷ by_format format 0 r.ratio ∷ 0 ∷ []

unfoldable pub row_bytes : ℕ → Row → Bytes
row_bytes format r = fields row_widths (row_numbers format r)

-- ---- the body: the head and the rows, and then the sum of these

unfoldable pub prefix_bytes : ℕ → Version → Bytes
prefix_bytes format v = head_bytes format v ++ flat_map (row_bytes format) v.rows

abbrev pub summed : Bytes → Bytes
summed bytes = bytes ++ little_bytes 8 (fnv_of bytes)

unfoldable pub body_bytes : ℕ → Version → Bytes
body_bytes format v = summed (prefix_bytes format v)

-- ---- which versions a format can spell: 2 each, and 1 those whose rows all have the settings of new tables

pub record HasHeadSettings (v : Version) (row : Row) : Type 0 where
  pub hash_bits : row.hash_bits ≡ v.hash_bits
  pub real_bits : row.real_bits ≡ v.real_bits
  pub ratio : row.ratio ≡ v.ratio

abbrev pub MaySpell : ℕ → Version → Type 0
MaySpell format v = (format ≡ 2) ⊎ ((format ≡ 1) × AllByRecursion (HasHeadSettings v) v.rows)

-- ---- where it stands: slot A and slot B, each with a gate byte, which is 1 where the slot is open, and the body from byte 8 on

abbrev pub slot_a : ℕ
slot_a = 0

abbrev pub slot_b : ℕ
slot_b = slot_bytes

abbrev pub body_place : ℕ → ℕ
body_place slot = slot + 8
