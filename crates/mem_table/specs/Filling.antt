-- Entries whose keys are in order.
use Rattle.std.specs.Prelude.{List}
use Rattle.std.specs.List.Sorted.{IsSortedBy}
use Rattle.std.specs.Ordering.{is_lt}
use Rattle.map_model.specs.SortedMap.{byte_order}
use Rattle.entry_model.specs.Entries.{Entry}

-- no key is below the one before it
abbrev pub DoNotFall : List Entry → Type 0
DoNotFall entries = IsSortedBy (λ entry other. is_lt (byte_order entry.key other.key)) entries
