-- Fields one after the other: a list of widths and a list of numbers.
use Rattle.std.specs.Prelude.{◌≡◌, ℕ, ◌<◌, ◌≤◌, ◌^◌, List, [], ◌∷◌, ◌++◌, length, take, drop, ◌+◌}
use Rattle.byteorder.specs.Endian.{little_bytes, little_number}
use Rattle.byte_fields.specs.Spelling.{IsBytes}

-- the bytes of all fields
abbrev pub total_width : List ℕ → ℕ
total_width [] = 0
total_width (w ∷ ws) = w + total_width ws

-- each number in its width
abbrev pub fields : List ℕ → List ℕ → List ℕ
fields [] ns = []
fields (w ∷ ws) [] = []
fields (w ∷ ws) (n ∷ ns) = little_bytes w n ++ fields ws ns

-- the numbers of these widths that the bytes begin with
abbrev pub numbers_in : List ℕ → List ℕ → List ℕ
numbers_in [] bytes = []
numbers_in (w ∷ ws) bytes = little_number w bytes ∷ numbers_in ws (drop w bytes)

-- a number for each width, which it fits
abbrev pub FieldsFit : List ℕ → List ℕ → Type 0
FieldsFit [] [] = Unit {0}
FieldsFit [] (n ∷ ns) = ⊥
FieldsFit (w ∷ ws) [] = ⊥
FieldsFit (w ∷ ws) (n ∷ ns) = (n < 256 ^ w) × FieldsFit ws ns

-- what was written is read, whatever follows
abbrev pub FieldsAreReadAgain : Type 0
FieldsAreReadAgain = (ws ns rest : List ℕ) → FieldsFit ws ns → numbers_in ws (fields ws ns ++ rest) ≡ ns

-- what was read is written so
abbrev pub FieldsAreSpelledAgain : Type 0
FieldsAreSpelledAgain = (ws bytes : List ℕ) → IsBytes bytes → total_width ws ≤ length bytes → fields ws (numbers_in ws bytes) ≡ take (total_width ws) bytes

-- what is read fits
abbrev pub FieldsReadFit : Type 0
FieldsReadFit = (ws bytes : List ℕ) → IsBytes bytes → total_width ws ≤ length bytes → FieldsFit ws (numbers_in ws bytes)
