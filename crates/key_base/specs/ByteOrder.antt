-- Byte strings and their order: byte by byte, a proper prefix first.
use Rattle.std.specs.Prelude.{◌≡◌, ℕ, Bool, List}
use Rattle.std.specs.declared.cmp.Ordering.{Ordering}
use Rattle.std.specs.declared.cmp.Ordering.TheVariants.{Less}
use Rattle.std.specs.Cmp.Lexicographic.{slice_cmp}
use Rattle.std.specs.Ordering.{nat_cmp, is_lt}

abbrev pub Bytes : Type 0
Bytes = List ℕ

abbrev pub byte_order : Bytes → Bytes → Ordering
byte_order x y = slice_cmp nat_cmp x y

-- x comes before y
abbrev pub is_before : Bytes → Bytes → Bool
is_before x y = is_lt (byte_order x y)

abbrev pub IsBefore : Bytes → Bytes → Type 0
IsBefore x y = byte_order x y ≡ Less
