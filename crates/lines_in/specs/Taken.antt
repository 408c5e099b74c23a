-- What was taken of an input, in lines.
use Rattle.std.specs.Prelude.{◌≡◌, ◌⊎◌, ◌<◌, ◌++◌, ℕ, List, [], ◌∷◌, length, flat_map, All}
use Rattle.line_model.specs.Lines.{lines_of, whole_lines}
use Rattle.lines_in.specs.Holding.{with_newline}
use Rattle.map_model.specs.SortedMap.{Bytes}
use Rattle.store_commands.specs.Cutting.{NoNewline}

-- What was taken begins with these lines, each with its newline, and after them are fewer bytes than these.
pub record TakenPast (most : ℕ) (taken : Bytes) (lines : List Bytes) : Type 0 where
  pub whole : All NoNewline lines
  pub behind : Bytes
  pub split : taken ≡ flat_map with_newline lines ++ behind
  pub less : length behind < most

-- What was taken is these lines, each with its newline, and this one without one.
pub record TakenAll (taken : Bytes) (lines : List Bytes) (line : Bytes) : Type 0 where
  pub whole : All NoNewline (lines ++ line ∷ [])
  pub split : taken ≡ flat_map with_newline lines ++ line

-- what was taken ends with this line, but for fewer bytes than these
abbrev pub TakenTo : ℕ → Bytes → List Bytes → Bytes → Type 0
TakenTo most taken lines line = TakenPast most taken (lines ++ line ∷ []) ⊎ TakenAll taken lines line

-- the first lines of an input that begins with these bytes, the newline of each among them
abbrev pub AreFirst : Bytes → List Bytes → Type 0
AreFirst bytes lines = (more : Bytes) → (later : List Bytes) × (whole : List Bytes) × (lines_of (bytes ++ more) ≡ lines ++ later) × (whole_lines (bytes ++ more) ≡ lines ++ whole)
