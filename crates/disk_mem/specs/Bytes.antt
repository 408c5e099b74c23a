-- A device's bytes as a list, with zeros past its end.
use Rattle.std.specs.Prelude.{ℕ, ◌+◌, ◌-◌, List, ◌++◌, length, replicate, slice_index}
use Rattle.std.specs.List.{splice}
use Rattle.disk_trait.specs.Image.{Image}

-- what is read of these bytes: 0 past their end
abbrev pub image_of : List ℕ → Image
image_of bytes place = slice_index bytes place

abbrev pub zeros : ℕ → List ℕ
zeros n = replicate n 0

-- at least so many bytes, with zeros behind
abbrev pub padded : List ℕ → ℕ → List ℕ
padded bytes size = bytes ++ zeros (size - length bytes)

-- these bytes written from a place on
unfoldable pub with_write : List ℕ → ℕ → List ℕ → List ℕ
with_write was at bytes = splice (padded was (at + length bytes)) at (at + length bytes) bytes
