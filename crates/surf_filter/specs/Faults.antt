-- The fault of bytes that are no image.
use Rattle.std.specs.Prelude.{Option, Some, None}
use Rattle.byte_fields.specs.Faults.{Fault, fault}
use Rattle.filter_image_model.specs.Header.{Bytes}
use Rattle.filter_image_model.specs.Reading.{image_fault}

-- rule 0, which no format has, where there is no fault
abbrev pub fault_in : Option Fault → Fault
fault_in None = fault 0 0
fault_in (Some f) = f

-- the first rule that bytes break
abbrev pub first_image_fault : Bytes → Fault
first_image_fault bytes = fault_in (image_fault bytes)
