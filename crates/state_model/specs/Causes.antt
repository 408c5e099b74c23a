-- What the state does not explain.
use Rattle.byte_fields.specs.declared.parts.Damage.{Damage}

-- Memory was refused; a read failed; a write or a sync failed; a part that was read has another sum than the kept one, or
-- breaks a rule of its format. What must be so for each of them is a parameter of steps and merge slices: lack of memory is
-- free, a fault of the device comes only where its count of such faults rose, damage only where the bytes show it.
pub data Why : Type 0 where
  NoMemory : Why
  ReadFailed : Why
  WriteFailed : Why
  DamageMet : (damage : Damage) → Why
