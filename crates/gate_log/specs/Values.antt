-- The value of an entry as it is handed in: bytes, or none of a tombstone.
use Rattle.std.specs.Prelude.{Option}
use Rattle.std.specs.Option.{option_map}
use Rattle.std.specs.Borrow.{Bor}
use Rattle.map_model.specs.SortedMap.{Bytes}

abbrev pub value_of : Option (Bor Bytes) → Option Bytes
value_of value = option_map (λ (v : Bor Bytes). v.now) value
