-- What a builder takes, and why it refuses a pair.
use Rattle.std.specs.Prelude.{◌==◌, nat_lt, not, Bool, true, ◌||◌, if◌then◌else◌, List, [], ◌∷◌, length, Option, Some, None, Result, Ok, Err}
use Rattle.fst_map.specs.declared.error.AddError.{AddError}
use Rattle.fst_map.specs.declared.error.AddError.TheVariants as error
use Rattle.map_model.specs.Slices.{is_before}
use Rattle.map_model.specs.SortedMap.{Bytes, Map}

-- the key is above the last one, if there is one
abbrev pub is_above : Map → Bytes → Bool
is_above [] key = true
is_above (pair ∷ []) key = is_before pair.0 key
is_above (pair ∷ next ∷ more) key = is_above (next ∷ more) key

-- the first of these: the key has no byte or more than 1,024, the value has more than 65,536, the key is not above the last
-- one, there are 1,000,000 pairs
abbrev pub add_fault : Map → Bytes → Bytes → Option AddError
add_fault pairs key value =
    if (length key == 0) || nat_lt 1024 (length key) then Some (error.Key (length key))
    else (if nat_lt 65536 (length value) then Some (error.Value (length value))
    else (if not (is_above pairs key) then Some error.Order
    else (if nat_lt 999999 (length pairs) then Some error.Many
    else None)))

-- the fault that is said, which want of memory is not
abbrev pub fault_said : {X : Type 0} → Result X AddError → Option AddError
fault_said (Ok x) = None
fault_said (Err error.Memory) = None
fault_said (Err (error.Key n)) = Some (error.Key n)
fault_said (Err (error.Value n)) = Some (error.Value n)
fault_said (Err error.Order) = Some error.Order
fault_said (Err error.Many) = Some error.Many
