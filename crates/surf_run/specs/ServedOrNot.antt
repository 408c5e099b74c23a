-- What a run that serves a store promises.
use Rattle.std.specs.Prelude.{◌≡◌, ◌⊎◌, ◌≤◌, ◌+◌, ◌*◌, ◌++◌, ℕ, length}
use Rattle.byte_fields.specs.Faults.{Fault}
use Rattle.byte_fields.specs.declared.parts.Damage.{Damage}
use Rattle.disk_trait.specs.World.{Image, World}
use Rattle.filter_api.specs.Spellings.{Spelling}
use Rattle.image_model.specs.Opening.{FirstDamage}
use Rattle.image_model.specs.Stands.{IsStateOf}
use Rattle.line_model.specs.Replies.{Damaged, text_of}
use Rattle.lines_in.specs.Unserved.{Unserved}
use Rattle.map_model.specs.SortedMap.{Bytes}
use Rattle.state_model.specs.State.{State}
use Rattle.surf_run.specs.Kind.{Kind}
use Rattle.surf_run.specs.Open.{IsFreeText, OpenMoves}
use Rattle.surf_run.specs.Outcome.{Outcome}
use Rattle.table_file.specs.Faults.{filter_fault_of}

-- the reads before the first line: seven at most, and two for each table
abbrev pub opening_bound : State → ℕ
opening_bound s = 7 + 2 * length s.tables

-- no line was answered, since the device failed or there was no memory, and no more was read than before a first line
abbrev pub NoLineAnswered : ℕ → State → World → World → Type 0
NoLineAnswered status start old new = Unserved IsFreeText status old new × (new.seen.reads ≤ old.seen.reads + opening_bound start)

-- the lines were answered from this state on, or none was
abbrev pub ServedOrNot : Kind → ℕ → State → World → World → Type 0
ServedOrNot kind status start old new = Outcome kind status start (old.seen.reads + opening_bound start) old new ⊎ NoLineAnswered status start old new

-- The store was opened, with nothing written, taken or said by then; and lines were answered from this state on.
pub record OpenedThenServed (kind : Kind) (status : ℕ) (start : State) (old opened new : World) : Type 0 where
  pub opens : OpenMoves old opened
  pub outcome : Outcome kind status start (old.seen.reads + opening_bound start) opened new

-- the image is damaged, and the last line says where and how
abbrev pub TellsDamage : Spelling → (Bytes → Fault) → Image → World → World → Type 0
TellsDamage spelling first image old new =
    (d : Damage) × FirstDamage spelling (filter_fault_of first) image d × (new.beside.said ≡ old.beside.said ++ text_of (Damaged d))

-- no state is there: what opens has damage in a block
abbrev pub HasNoState : Spelling → Image → Type 0
HasNoState spelling image = (s : State) → IsStateOf spelling s image → ⊥
