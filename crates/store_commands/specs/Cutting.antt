-- Texts that are cut at newlines and spaces.
use Rattle.std.specs.Prelude.{◌≡◌, ◌==◌, false, All, List, [], Option, Some, None}
use Rattle.std.specs.List.{slice_split}
use Rattle.map_model.specs.SortedMap.{Bytes}

abbrev pub NoNewline : Bytes → Type 0
NoNewline line = All (λ b. (b == 10) ≡ false) line

-- the words of what stands behind a space
abbrev pub words_after : Option Bytes → List Bytes
words_after None = []
words_after (Some text) = slice_split (λ b. b == 32) text
