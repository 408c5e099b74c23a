-- Runs that follow one another.
use Rattle.std.specs.Prelude.{◌≡◌, ◌⊎◌, ◌≤◌, ◌++◌, ℕ, Bool, List, IsTrue}
use Rattle.byte_fields.specs.Faults.{Fault}
use Rattle.clap.specs.Walk.{Text}
use Rattle.disk_trait.specs.World.{Image, Now, World}
use Rattle.image_model.specs.Stands.{IsStateOf}
use Rattle.line_model.specs.Lines.{lines_of}
use Rattle.map_model.specs.SortedMap.{Bytes, Map}
use Rattle.program_words.specs.Asked.{IsServe}
use Rattle.state_model.specs.State.{State}
use Rattle.state_model.specs.View.{state_map}
use Rattle.surf_run.specs.Kind.{Kind}
use Rattle.surf_run.specs.MapCrash.{KeepsOneMap}
use Rattle.surf_run.specs.RunContract.{RunContract}
use Rattle.surf_run.specs.ServedOrNot.{NoLineAnswered, ServedOrNot}

-- A run from a state may be stopped at this moment with this map: the one after the lines that were acknowledged by then, or after
-- one more; or no line was answered, and it is that of the start.
abbrev pub MayLeave : ℕ → State → World → World → ℕ → Map → Type 0
MayLeave status start old new m now =
    ((taken : Bytes) × (old.beside.to_take ≡ taken ++ new.beside.to_take)
    × KeepsOneMap (state_map start) (lines_of taken) old.beside.said new.beside.said (new.beside.said_by m) now)
    ⊎ ((now ≡ state_map start) × NoLineAnswered status start old new)

-- A run of `serve` that may be stopped at any moment, and one that is begun with an image that a crash may have left there: the
-- lines of the second get the replies of such a map.
abbrev pub RunsChain : {X : Type 0} → (X → World) → Bool → Bool → Bool → Kind → (Bytes → Fault) → Type 0
RunsChain {X} world tells tells_input tells_output kind first_fault =
    (words again : List Text) (status next : ℕ) (old new begun ended : X) (start : State)
    → RunContract world tells tells_input tells_output kind first_fault words status old new
    → RunContract world tells tells_input tells_output kind first_fault again next begun ended
    → IsTrue tells → IsTrue tells_input → IsTrue tells_output → IsServe words → IsServe again → Now (IsStateOf kind.spelling start) (world old)
    → (m : ℕ) (image : Image) → (world old).moment ≤ m → m ≤ (world new).moment → (world new).leaves m image → Now (λ left. left ≡ image) (world begun)
    → (s : State) × MayLeave status start (world old) (world new) m (state_map s) × ServedOrNot kind next s (world begun) (world ended)
