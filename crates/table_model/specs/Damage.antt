-- What is wrong with a part of a table: another sum than the one that is kept, or the first rule that its bytes break.
use Rattle.std.specs.Prelude.{◌≡◌, ◌≢◌, ◌<◌, ℕ, ◌+◌, ◌*◌, ◌==◌, List, [], ◌∷◌, length, Option, Some, None, if◌then◌else◌}
use Rattle.std.specs.Option.{option_map}
use Rattle.disk_trait.specs.Image.{Image, window}
use Rattle.byte_fields.specs.Sums.{fnv_of}
use Rattle.byte_fields.specs.declared.parts.Damage.{Damage}
use Rattle.byte_fields.specs.declared.parts.Damage.TheVariants as damage
use Rattle.byte_fields.specs.declared.parts.Part.{Part}
use Rattle.byte_fields.specs.declared.parts.Part.TheVariants as part
use Rattle.byte_fields.specs.declared.parts.Row.{Row}
use Rattle.filter_api.specs.Spellings.{Spelling, IsNoSpelling, IsSpelling}
use Rattle.filter_api.specs.declared.errors.FilterFault.{FilterFault}
use Rattle.filter_model.specs.Leaves.{Leaf}
use Rattle.map_model.specs.SortedMap.{Bytes}
use Rattle.block_model.specs.BlockReading.{block_fault}
use Rattle.byte_fields.specs.Faults.{Fault}
use Rattle.block_model.specs.Index.{IndexRow}
use Rattle.block_model.specs.IndexReading.{index_fault}
use Rattle.block_model.specs.Pages.{page_bytes}
use Rattle.block_model.specs.Places.{byte_of_page, filter_page, index_page}

-- of a part that begins at this byte of the device: the sum, then the rules
abbrev pub part_damage : Part → ℕ → ℕ → Bytes → Option Fault → Option Damage
part_damage part at kept bytes fault =
    if kept == fnv_of bytes then option_map (λ (f : Fault). damage.Shape part (at + f.place) f.rule) fault else Some (damage.Sum part at kept (fnv_of bytes))

-- ---- the index of a row

abbrev pub index_part : Row → Image → Bytes
index_part row image = window image (byte_of_page (index_page row)) row.index_len

abbrev pub index_damage : Row → Image → Option Damage
index_damage row image =
    part_damage part.Index (byte_of_page (index_page row)) row.index_sum (index_part row image) (index_fault row.data_pages (index_part row image))

-- ---- a block that begins at this page, by its row in the index

abbrev pub block_part : ℕ → IndexRow → Image → Bytes
block_part page row image = window image (byte_of_page page) (page_bytes * row.pages)

abbrev pub block_damage : ℕ → IndexRow → Image → Option Damage
block_damage page row image = part_damage part.Block (byte_of_page page) row.sum (block_part page row image) (block_fault (block_part page row image))

-- no block has damage, one after the other from this page on
abbrev pub AreSoundBlocks : ℕ → List IndexRow → Image → Type 0
AreSoundBlocks page [] image = Unit {0}
AreSoundBlocks page (row ∷ later) image = (block_damage page row image ≡ None) × AreSoundBlocks (page + row.pages) later image

-- ---- the filter of a row

abbrev pub filter_part : Row → Image → Bytes
filter_part row image = window image (byte_of_page (filter_page row)) row.filter_len

-- 11: a filter has as many leaves as the table has entries
abbrev pub leaves_place : ℕ
leaves_place = 12

-- 12: it has the widths of the row's settings
abbrev pub widths_place : ℕ
widths_place = 5

-- the filter has the widths of the row's settings
pub record HasWidths (row : Row) (hash_bits real_bits : ℕ) : Type 0 where
  pub hash : hash_bits ≡ row.hash_bits
  pub real : real_bits ≡ row.real_bits

-- The first of these, in their order: another sum; bytes that spell nothing, with their first fault; rule 11; rule 12.
-- The first fault is that of the kind of filter.
pub data IsFilterDamage (spelling : Spelling) (first_fault : Bytes → FilterFault) (row : Row) (image : Image) : Damage → Type 0 where
  other_sum : row.filter_sum ≢ fnv_of (filter_part row image)
      → IsFilterDamage spelling first_fault row image (damage.Sum part.Filter (byte_of_page (filter_page row)) row.filter_sum (fnv_of (filter_part row image)))
  no_spelling : row.filter_sum ≡ fnv_of (filter_part row image) → IsNoSpelling spelling (filter_part row image)
      → IsFilterDamage spelling first_fault row image
      (damage.Shape part.Filter (byte_of_page (filter_page row) + (first_fault (filter_part row image)).place) (first_fault (filter_part row image)).rule)
  other_leaves : (hash_bits real_bits cutoff : ℕ) (leaves : List Leaf) → row.filter_sum ≡ fnv_of (filter_part row image)
      → IsSpelling spelling hash_bits real_bits cutoff leaves (filter_part row image) → length leaves ≢ row.entries
      → IsFilterDamage spelling first_fault row image (damage.Shape part.Filter (byte_of_page (filter_page row) + leaves_place) 11)
  other_widths : (hash_bits real_bits cutoff : ℕ) (leaves : List Leaf) → row.filter_sum ≡ fnv_of (filter_part row image)
      → IsSpelling spelling hash_bits real_bits cutoff leaves (filter_part row image) → length leaves ≡ row.entries
      → (HasWidths row hash_bits real_bits → ⊥)
      → IsFilterDamage spelling first_fault row image (damage.Shape part.Filter (byte_of_page (filter_page row) + widths_place) 12)

-- none of these
pub record IsSoundFilter (spelling : Spelling) (row : Row) (image : Image) : Type 0 where
  pub sum : row.filter_sum ≡ fnv_of (filter_part row image)
  pub cutoff : ℕ
  pub leaves : List Leaf
  pub spelled : IsSpelling spelling row.hash_bits row.real_bits cutoff leaves (filter_part row image)
  pub many : length leaves ≡ row.entries

-- ---- what is known of any image

-- an image of bytes
abbrev pub IsOfBytes : Image → Type 0
IsOfBytes image = (place : ℕ) → image place < 256
