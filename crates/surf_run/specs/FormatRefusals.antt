-- Why a format is refused, and how a run ends for it.
use Rattle.std.specs.Prelude.{ℕ, []}
use Rattle.line_model.specs.Replies as line
use Rattle.lines_in.specs.Statuses.{done_status, device_status, memory_status, store_status}
use Rattle.map_model.specs.SortedMap.{Bytes}
use Rattle.store_core.specs.declared.error.StoreError.{StoreError}
use Rattle.store_core.specs.declared.error.StoreError.TheVariants as error
use Rattle.surf_run.specs.Formats.{already_text, bad_settings_text}

-- a cause that a format has
abbrev pub IsOfFormat : StoreError → Type 0
IsOfFormat error.Memory = Unit {0}
IsOfFormat (error.Device cause) = Unit {0}
IsOfFormat error.Stopped = ⊥
IsOfFormat (error.Limit limit) = ⊥
IsOfFormat (error.Full need gap) = ⊥
IsOfFormat (error.Damaged damage) = ⊥
IsOfFormat error.NotAStore = ⊥
IsOfFormat error.AlreadyAStore = Unit {0}
IsOfFormat (error.BadSettings field) = Unit {0}

abbrev pub refused_status : StoreError → ℕ
refused_status error.Memory = memory_status
refused_status (error.Device cause) = device_status
refused_status error.AlreadyAStore = store_status
refused_status (error.BadSettings field) = store_status
refused_status other = done_status

abbrev pub refused_text : StoreError → Bytes
refused_text error.Memory = line.text_of line.Memory
refused_text (error.Device cause) = line.text_of line.Device
refused_text error.AlreadyAStore = already_text
refused_text (error.BadSettings field) = bad_settings_text field
refused_text other = []
