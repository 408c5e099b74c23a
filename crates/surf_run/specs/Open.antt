-- What opening does, and how a run ends whose store was not opened.
use Rattle.std.specs.Prelude.{◌≡◌, ◌⊎◌, ◌++◌, ℕ, Bool, [], ◌∷◌, IsTrue, codes}
use Rattle.byte_fields.specs.Faults.{Fault}
use Rattle.byte_fields.specs.declared.parts.Damage.{Damage}
use Rattle.disk_trait.specs.World.{Image, Passes, Same, World}
use Rattle.filter_api.specs.Spellings.{Spelling}
use Rattle.image_model.specs.Opening.{FirstDamage}
use Rattle.line_model.specs.Replies.{text_of}
use Rattle.line_model.specs.Replies as replies
use Rattle.lines_in.specs.Causes.{NoFall}
use Rattle.lines_in.specs.Unserved.{Unserved}
use Rattle.lines_in.specs.Statuses.{device_status, damaged_status, output_status, memory_status, store_status}
use Rattle.manifest_model.specs.Slots.{IsNoStore}
use Rattle.map_model.specs.SortedMap.{Bytes}
use Rattle.store_core.specs.declared.error.StoreError.{StoreError}
use Rattle.store_core.specs.declared.error.StoreError.TheVariants as error
use Rattle.table_file.specs.Faults.{filter_fault_of}

-- nothing is written, and nothing changes beside the device
pub record OpenMoves (old new : World) : Type 0 where
  pub counts : NoFall old new
  pub held : new.seen.held ≡ old.seen.held
  pub beside : new.beside ≡ old.beside
  pub time : Passes Same old new

-- why opening is refused, and nothing else
abbrev pub IsOpening : StoreError → Type 0
IsOpening error.Memory = Unit {0}
IsOpening (error.Device cause) = Unit {0}
IsOpening (error.Damaged damage) = Unit {0}
IsOpening error.NotAStore = Unit {0}
IsOpening error.Stopped = ⊥
IsOpening (error.Limit limit) = ⊥
IsOpening (error.Full need gap) = ⊥
IsOpening error.AlreadyAStore = ⊥
IsOpening (error.BadSettings field) = ⊥

-- the line of a device that holds no store
abbrev pub no_store_text : Bytes
no_store_text = codes "not a store" ++ 10 ∷ []

-- the last line and the status of a run whose store was not opened
abbrev pub opening_text : StoreError → Bytes
opening_text error.Memory = text_of replies.Memory
opening_text (error.Device cause) = text_of replies.Device
opening_text error.Stopped = []
opening_text (error.Limit limit) = []
opening_text (error.Full need gap) = []
opening_text (error.Damaged damage) = text_of (replies.Damaged damage)
opening_text error.NotAStore = no_store_text
opening_text error.AlreadyAStore = []
opening_text (error.BadSettings field) = []

abbrev pub opening_status : StoreError → ℕ
opening_status error.Memory = memory_status
opening_status (error.Device cause) = device_status
opening_status error.Stopped = device_status
opening_status (error.Limit limit) = device_status
opening_status (error.Full need gap) = device_status
opening_status (error.Damaged damage) = damaged_status
opening_status error.NotAStore = store_status
opening_status error.AlreadyAStore = device_status
opening_status (error.BadSettings field) = device_status

-- the statuses and last lines of a run whose device, or memory, failed it before the first line
abbrev pub IsFreeText : ℕ → Bytes → Type 0
IsFreeText status text = ((status ≡ device_status) × (text ≡ text_of replies.Device)) ⊎ ((status ≡ memory_status) × (text ≡ text_of replies.Memory))

-- or whose image has this damage first, or is no store
abbrev pub IsOpeningText : Spelling → (Bytes → Fault) → Image → ℕ → Bytes → Type 0
IsOpeningText spelling first image status text =
    IsFreeText status text
    ⊎ ((status ≡ damaged_status) × (d : Damage) × FirstDamage spelling (filter_fault_of first) image d × (text ≡ text_of (replies.Damaged d)))
    ⊎ ((status ≡ store_status) × IsNoStore image × (text ≡ no_store_text))

-- ---- how a run ends over what does not open

-- nothing opens there: no store is there, or opening finds damage
abbrev pub OpensNothing : Spelling → (Bytes → Fault) → Image → Type 0
OpensNothing spelling first image = IsNoStore image ⊎ ((d : Damage) × FirstDamage spelling (filter_fault_of first) image d)

-- What a run of this status says where no store is there or opening finds damage: nothing is taken or written, and its status and its
-- one last line say which, but for the device, memory and a last line that cannot be said.
pub record OpeningEnds (spelling : Spelling) (first_fault : Bytes → Fault) (tells tells_output : Bool) (status : ℕ) (old new : World) : Type 0 where
  pub unopened : IsTrue tells → IsTrue tells_output → OpensNothing spelling first_fault old.seen.held → Unserved (IsOpeningText spelling first_fault old.seen.held) status old new
  pub told_of_damage : (d : Damage) → IsTrue tells → FirstDamage spelling (filter_fault_of first_fault) old.seen.held d → (status ≡ damaged_status) ⊎ (status ≡ device_status) ⊎ (status ≡ output_status) ⊎ (status ≡ memory_status)
  pub told_of_no_store : IsTrue tells → IsNoStore old.seen.held → (status ≡ store_status) ⊎ (status ≡ device_status) ⊎ (status ≡ output_status) ⊎ (status ≡ memory_status)
