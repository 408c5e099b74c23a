-- What a load tells of a map: how many pairs it has, and the sum of its values.
use Rattle.std.specs.Prelude.{ℕ, ◌+◌, ◌%◌, ◌^◌, [], ◌∷◌, ◌++◌, fold, codes, decimal}
use Rattle.byteorder.specs.Endian.{little_number}
use Rattle.map_model.specs.SortedMap.{Bytes, Map}
use Rattle.line_model.specs.Replies.{sum_word}

-- the number that the first eight bytes of a value make, the lowest first, with zeros where it is shorter
abbrev pub value_number : Bytes → ℕ
value_number value = little_number 8 value

-- how many pairs are live, and the sum of their values' numbers, in 64 bits
pub record Summary : Type 0 where
  pub live : ℕ
  pub sum : ℕ

abbrev pub nothing_live : Summary
nothing_live = record { live = 0; sum = 0 }

abbrev pub with_pair : Summary → Bytes × Bytes → Summary
with_pair summary pair = record { live = summary.live + 1; sum = (summary.sum + value_number pair.1) % 2 ^ 64 }

abbrev pub summary_of : Map → Summary
summary_of map = fold with_pair nothing_live map

-- the line that is said: of so many steps, some of which were refused
abbrev pub summary_text : ℕ → ℕ → Summary → Bytes
summary_text count refused summary =
    codes "load steps " ++ decimal count ++ codes " refused " ++ decimal refused ++ codes " live " ++ decimal summary.live ++ codes " sum " ++ sum_word summary.sum ++ 10 ∷ []
