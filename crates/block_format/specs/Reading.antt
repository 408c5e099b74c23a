-- What a reader of blocks asks of a key, and what it says of a fault.
use Rattle.std.specs.Prelude.{◌≡◌, ◌≤◌, ℕ, zero, suc, Bool, true, false, [], Option, Some, None, length, drop}
use Rattle.map_model.specs.SortedMap.{Bytes}
use Rattle.entry_model.specs.Reading.{key_in, width_in}
use Rattle.byte_fields.specs.Faults.{Fault, fault}
use Rattle.byte_fields.specs.Sums.{fnv_of}
use Rattle.key_base.specs.ByteOrder.{is_before}
use Rattle.block_model.specs.Order.{is_any}
use Rattle.block_format.specs.declared.fault.BlockFault.{BlockFault}

-- the test of a key behind the one before, if there is one
abbrev pub passes_after : Option Bytes → Bytes → Bool
passes_after None = is_any
passes_after (Some before) = is_before before

-- the fault that the definitions speak of
abbrev pub seen : BlockFault → Fault
seen found = fault found.place found.rule

-- so many entries stand in the bytes one after the other, their keys rising from one that passes the test
abbrev pub Stand : ℕ → (Bytes → Bool) → Bytes → Type 0
Stand zero test rest = Unit {0}
Stand (suc more) test rest = (width_in rest ≤ length rest) × (test (key_in rest) ≡ true) × Stand more (is_before (key_in rest)) (drop (width_in rest) rest)

-- the sum of some bytes where it is wanted, else that of none
abbrev pub sum_where : Bool → Bytes → ℕ
sum_where true bytes = fnv_of bytes
sum_where false bytes = fnv_of []
