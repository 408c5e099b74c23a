-- What the body of a record of a kind says.
use Rattle.std.specs.Prelude.{Some, None}
use Rattle.map_model.specs.SortedMap.{Bytes}
use Rattle.entry_model.specs.Entries.{entry_of}
use Rattle.range_model.specs.Ranges.{range_of}
use Rattle.range_model.specs.Sources.{Change, Sets, Clears}
use Rattle.gate_log.specs.declared.kind.Kind.{Kind}
use Rattle.gate_log.specs.declared.kind.Kind.TheVariants.{Put, Delete, Range}

abbrev pub change_by : Kind → Bytes → Bytes → Change
change_by Put key value = Sets (entry_of key (Some value))
change_by Delete key value = Sets (entry_of key None)
change_by Range key value = Clears (range_of key value)
