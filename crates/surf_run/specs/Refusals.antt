-- How a line ends whose call of the store was refused.
use Rattle.std.specs.Prelude.{Result, Ok, Err}
use Rattle.lines_in.specs.declared.line_end.LineEnd.{LineEnd}
use Rattle.lines_in.specs.declared.line_end.LineEnd.TheVariants.{End, Next}
use Rattle.lines_in.specs.Statuses.{device_status, damaged_status}
use Rattle.store_core.specs.declared.error.StoreError.{StoreError}
use Rattle.store_core.specs.declared.error.StoreError.TheVariants as error

abbrev pub end_of_refusal : StoreError → LineEnd
end_of_refusal error.Memory = Next
end_of_refusal (error.Device cause) = End device_status
end_of_refusal error.Stopped = Next
end_of_refusal (error.Limit limit) = Next
end_of_refusal (error.Full need gap) = Next
end_of_refusal (error.Damaged damage) = End damaged_status
end_of_refusal error.NotAStore = Next
end_of_refusal error.AlreadyAStore = Next
end_of_refusal (error.BadSettings field) = Next

abbrev pub end_of_change : {T : Type 0} → Result T StoreError → LineEnd
end_of_change (Ok done) = Next
end_of_change (Err why) = end_of_refusal why
