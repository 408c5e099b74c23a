-- The lines of an input, and the bytes that a word says.
use Rattle.std.specs.Prelude.{List, [], ◌∷◌, if◌then◌else◌, ◌==◌, Option, Some, None, Result, Ok, Err, codes, bytes_eq}
use Rattle.std.specs.List.{slice_split}
use Rattle.hex.specs.Hex.{decode_of}
use Rattle.hex.specs.declared.error.FromHexError.{FromHexError}
use Rattle.map_model.specs.SortedMap.{Bytes}

-- the bytes of a text in hex, at least one of them
abbrev pub some_bytes : Bytes → Result Bytes FromHexError → Option Bytes
some_bytes [] decoded = None
some_bytes (c ∷ word) (Ok bytes) = Some bytes
some_bytes (c ∷ word) (Err fault) = None

-- the bytes that a word says: none by a dash, or one and more in hex digits of either case
abbrev pub bytes_in : Bytes → Option Bytes
bytes_in word = if bytes_eq word (codes "-") then Some [] else some_bytes word (decode_of word)

-- the parts between newlines, but for a last one that is empty
abbrev pub counted : List Bytes → List Bytes
counted [] = []
counted ([] ∷ []) = []
counted ((b ∷ line) ∷ []) = (b ∷ line) ∷ []
counted (line ∷ next ∷ more) = line ∷ counted (next ∷ more)

-- the lines of an input that was read to its end
abbrev pub lines_of : Bytes → List Bytes
lines_of bytes = counted (slice_split (λ b. b == 10) bytes)

abbrev pub but_last : List Bytes → List Bytes
but_last [] = []
but_last (part ∷ []) = []
but_last (part ∷ next ∷ more) = part ∷ but_last (next ∷ more)

-- the lines of an input that went on, each ended by its newline: a rest without one is no line
abbrev pub whole_lines : Bytes → List Bytes
whole_lines bytes = but_last (slice_split (λ b. b == 10) bytes)
