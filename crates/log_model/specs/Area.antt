-- The two log areas of a device, and what an image says there.
use Rattle.std.specs.Prelude.{◌≡◌, ◌⊎◌, ℕ, ◌+◌, ◌*◌, ◌≤◌, List, [], ◌∷◌, ◌++◌}
use Rattle.key_base.specs.Limits.{log_bytes}
use Rattle.disk_trait.specs.Image.{Image, window}
use Rattle.map_model.specs.SortedMap.{Bytes}
use Rattle.range_model.specs.Sources.{Change}
use Rattle.log_model.specs.Changes.{IsLoggedChange, change_body, filled_by, need_of}
use Rattle.log_model.specs.Records.{Spells, Breaks}

-- which area a log is in, and how many bytes its records take
pub record Position : Type 0 where
  pub area : ℕ
  pub filled : ℕ

-- the bytes of an area, under a name that hides the number: else a window of so many bytes is counted out
unfoldable pub area_size : ℕ
area_size = log_bytes

-- area 0 begins behind as many bytes as an area has, area 1 behind it
abbrev pub start_of : ℕ → ℕ
start_of area = log_bytes * (area + 1)

abbrev pub area_in : ℕ → Image → Bytes
area_in area image = window image (start_of area) area_size

-- the area spells these changes
abbrev pub LogIs : ℕ → List Change → Image → Type 0
LogIs area changes image = Spells changes (area_in area image)

-- these changes, with one more or without it
abbrev pub WithOrWithout : ℕ → List Change → Change → Image → Type 0
WithOrWithout area changes change image = LogIs area changes image ⊎ LogIs area (changes ++ change ∷ []) image

-- the area breaks a rule; the place is that of the device's byte
abbrev pub LogBreaks : ℕ → ℕ → ℕ → Image → Type 0
LogBreaks area at rule image = (place : ℕ) × (at ≡ start_of area + place) × Breaks place rule (area_in area image)

-- at this gate, the next one behind these changes, comes the change: its body, with a closed gate behind it
pub record IsNextRecord (area : ℕ) (changes : List Change) (change : Change) (gate : ℕ) (bytes : Bytes) : Type 0 where
  pub here : gate ≡ start_of area + filled_by changes
  pub bytes_are : bytes ≡ change_body change ++ 0 ∷ []
  pub sound : IsLoggedChange change
  pub room : filled_by changes + need_of change ≤ log_bytes
