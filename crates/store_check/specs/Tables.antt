-- What is found of one table.
use Rattle.std.specs.Prelude.{◌≡◌, ◌++◌, ◌==◌, ◌||◌, ℕ, Bool, not, List, [], Option, Some, None}
use Rattle.byte_fields.specs.Faults.{Fault}
use Rattle.byte_fields.specs.declared.parts.Damage.{Damage}
use Rattle.byte_fields.specs.declared.parts.Part.TheVariants as part
use Rattle.byte_fields.specs.declared.parts.Row.{Row}
use Rattle.disk_trait.specs.Image.{Image}
use Rattle.filter_api.specs.Spellings.{Spelling}
use Rattle.filter_model.specs.Answers.{first_difference}
use Rattle.filter_model.specs.Leaves.{Leaf, leaves_of}
use Rattle.map_model.specs.SortedMap.{Bytes}
use Rattle.block_model.specs.Places.{byte_of_page, index_page}
use Rattle.table_model.specs.Damage.{index_damage}
use Rattle.table_file.specs.Faults.{filter_fault_of}
use Rattle.table_file.specs.Opened.{IsReadIndex, RowIndex}
use Rattle.image_model.specs.Findings.{FilterFindings, Finding, WrongCount, finding, index_findings, known_keys, leaf_findings, unless}

-- the filter's findings are added, by the keys that are known
abbrev pub AddsOfFilter : Spelling → (Bytes → Fault) → Row → Option (List Bytes) → Image → List Finding → List Finding → Type 0
AddsOfFilter spelling first_fault row keys image old new =
    (of_filter : List Finding) × FilterFindings spelling (filter_fault_of first_fault) row keys image of_filter × (new ≡ old ++ of_filter)

-- the first leaf that is not of the keys, where these are known
abbrev pub leaves_compared : Row → List Leaf → Option (List Bytes) → List Finding
leaves_compared row leaves None = []
leaves_compared row leaves (Some keys) = leaf_findings row (first_difference leaves (leaves_of row.hash_bits row.real_bits keys))

-- these are all: of the index, the blocks and the count, and then of the filter
abbrev pub AreTableFindings : Spelling → (Bytes → Fault) → Row → Image → List Finding → Type 0
AreTableFindings spelling first_fault row image findings = AddsOfFilter spelling first_fault row (known_keys row image) image (index_findings row image) findings

-- the index of a row, none where it is damaged
abbrev pub IsIndexRead : Row → Image → Option RowIndex → Type 0
IsIndexRead row image None = (d : Damage) × (index_damage row image ≡ Some d)
IsIndexRead row image (Some x) = (x.row ≡ row) × IsReadIndex row image x

-- a given number of entries of blocks that are all sound, or are not
abbrev pub counted_findings : Row → Bool → ℕ → List Finding
counted_findings row sound many = unless (not sound || (many == row.entries)) (finding part.Index (byte_of_page (index_page row)) WrongCount)
