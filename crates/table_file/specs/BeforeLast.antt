-- The test of a last key after what comes before it.
use Rattle.std.specs.Prelude.{Bool}
use Rattle.map_model.specs.SortedMap.{Bytes}
use Rattle.key_base.specs.ByteOrder.{is_before}
use Rattle.block_model.specs.Order.{is_from}
use Rattle.table_file.specs.declared.index_order.BeforeLast.{BeforeLast}
use Rattle.table_file.specs.declared.index_order.BeforeLast.TheVariants.{Least, Last}

abbrev pub passes : BeforeLast → Bytes → Bool
passes (Least key) = is_from key.now
passes (Last key) = is_before key.now
