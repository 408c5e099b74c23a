-- The laws of logs.
use Rattle.std.specs.Prelude.{◌≡◌, ◌⊎◌, ℕ, ◌<◌, List, length}
use Rattle.byte_fields.specs.Spelling.{IsBytes}
use Rattle.key_base.specs.Limits.{log_bytes}
use Rattle.disk_trait.specs.Image.{Image, IsApart, Torn}
use Rattle.map_model.specs.SortedMap.{Bytes}
use Rattle.range_model.specs.Sources.{Change}
use Rattle.log_model.specs.Area.{LogIs, start_of}
use Rattle.log_model.specs.Records.{Spells, Breaks}

-- Bytes spell one list of changes only, or break one rule first and at one place, and never both.
pub record OneReading : Type 0 where
  pub one_list : (changes others : List Change) (bytes : Bytes) → Spells changes bytes → Spells others bytes → changes ≡ others
  pub one_fault : (place rule other number : ℕ) (bytes : Bytes) → Breaks place rule bytes → Breaks other number bytes → (place ≡ other) × (rule ≡ number)
  pub not_both : (changes : List Change) (place rule : ℕ) (bytes : Bytes) → Spells changes bytes → Breaks place rule bytes → ⊥

-- some bytes spell changes, or break a rule
abbrev pub SpellsOrBreaks : Type 0
SpellsOrBreaks =
    (bytes : Bytes) → IsBytes bytes → 0 < length bytes
    → ((changes : List Change) × Spells changes bytes) ⊎ ((place : ℕ) × (rule : ℕ) × Breaks place rule bytes)

-- what is written apart from its area changes nothing in a log
abbrev pub IsKeptElsewhere : Type 0
IsKeptElsewhere =
    (area : ℕ) (changes : List Change) (at n : ℕ) (old new : Image) → IsApart (start_of area) log_bytes at n
    → Torn at n old new → LogIs area changes old → LogIs area changes new
