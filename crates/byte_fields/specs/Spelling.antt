-- A number in so many bytes, lowest byte first, has one spelling.
use Rattle.std.specs.Prelude.{◌≡◌, ℕ, ◌<◌, ◌≤◌, ◌^◌, List, ◌++◌, length, take, slice_index}
use Rattle.byteorder.specs.Endian.{little_bytes, little_number}

-- each is a byte
abbrev pub IsBytes : List ℕ → Type 0
IsBytes bytes = (i : ℕ) → slice_index bytes i < 256

-- what was written is read, whatever follows
abbrev pub NumberIsReadAgain : Type 0
NumberIsReadAgain = (width n : ℕ) (rest : List ℕ) → n < 256 ^ width → little_number width (little_bytes width n ++ rest) ≡ n

-- what was read is written so
abbrev pub NumberIsSpelledAgain : Type 0
NumberIsSpelledAgain =
    (width : ℕ) (bytes : List ℕ) → IsBytes bytes → width ≤ length bytes → little_bytes width (little_number width bytes) ≡ take width bytes

-- what is read has so many bytes
abbrev pub NumberFits : Type 0
NumberFits = (width : ℕ) (bytes : List ℕ) → IsBytes bytes → width ≤ length bytes → little_number width bytes < 256 ^ width
