-- The laws of the manifest: a version is read from its bytes as it was written, and bytes that break no rule were written so.
use Rattle.std.specs.Prelude.{◌≡◌, ◌⊎◌, ℕ, ◌+◌, ◌^◌, ◌<◌, ◌≤◌, ◌++◌, length, take, None}
use Rattle.std.specs.List.{AllByRecursion}
use Rattle.byte_fields.specs.Fields.{FieldsFit}
use Rattle.byte_fields.specs.Spelling.{IsBytes}
use Rattle.byte_fields.specs.declared.parts.Row.{Row}
use Rattle.filter_api.specs.Ranges.{IsRowInRange}
use Rattle.key_base.specs.Limits.{max_device_pages, max_hash_bits, max_real_bits, max_tables, min_device_pages}
use Rattle.map_model.specs.SortedMap.{Bytes}
use Rattle.manifest_model.specs.Reading.{body_damage, body_format, prefix_length_in, of_version, version_in}
use Rattle.manifest_model.specs.Version.{MaySpell, Version, body_bytes, log_page_of, row_numbers, row_widths}

-- a row whose numbers fit their fields
abbrev pub RowFits : Row → Type 0
RowFits row = FieldsFit row_widths (row_numbers 2 row)

-- a version that keeps the rules
pub record IsVersion (v : Version) : Type 0 where
  pub few_tables : length v.rows ≤ max_tables
  pub some_epoch : 1 ≤ v.epoch
  pub epoch : v.epoch < 2 ^ 64
  pub some_pages : min_device_pages ≤ v.pages
  pub few_pages : v.pages ≤ max_device_pages
  pub hash_bits : v.hash_bits ≤ max_hash_bits
  pub real_bits : v.real_bits ≤ max_real_bits
  pub ratio : v.ratio < 2 ^ 16
  pub log_page : (v.log_page ≡ log_page_of 0) ⊎ (v.log_page ≡ log_page_of 1)
  pub rows : AllByRecursion RowFits v.rows
  pub settings : AllByRecursion IsRowInRange v.rows
  pub placed : of_version v ≡ None

abbrev pub VersionIsReadAgain : Type 0
VersionIsReadAgain =
    (slot format : ℕ) (v : Version) (rest : Bytes) → IsVersion v → MaySpell format v
    → (body_damage slot (body_bytes format v ++ rest) ≡ None) × (body_format (body_bytes format v ++ rest) ≡ format) × (version_in (body_bytes format v ++ rest) ≡ v)

abbrev pub VersionWasWrittenSo : Type 0
VersionWasWrittenSo =
    (slot : ℕ) (bytes : Bytes) → IsBytes bytes → prefix_length_in bytes + 8 ≤ length bytes → body_damage slot bytes ≡ None
    → IsVersion (version_in bytes) × MaySpell (body_format bytes) (version_in bytes)
    × (body_bytes (body_format bytes) (version_in bytes) ≡ take (prefix_length_in bytes + 8) bytes)
