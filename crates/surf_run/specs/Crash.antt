-- What an image that a crash may leave stands for, beside how many bytes had been said by its moment.
use Rattle.std.specs.Prelude.{◌≡◌, ◌⊎◌, ◌≤◌, ℕ, List, ◌∷◌, ◌++◌, drop, length, take}
use Rattle.disk_trait.specs.World.{Image, Now, World}
use Rattle.image_model.specs.Stands.{StandsFor, StandsForMap, UnnamedStand}
use Rattle.line_model.specs.Replies.{Device, Reply, text_of}
use Rattle.line_model.specs.Requests.{Request, request_of}
use Rattle.map_model.specs.SortedMap.{Bytes}
use Rattle.state_model.specs.Causes.{Why}
use Rattle.state_model.specs.PlayLaws.{AnyState}
use Rattle.state_model.specs.State.{State}
use Rattle.state_model.specs.Steps.{Step, answer}
use Rattle.state_model.specs.View.{state_map}
use Rattle.surf_run.specs.Dialogue.{AnsweredLines}
use Rattle.surf_run.specs.Kind.{Kind}
use Rattle.surf_run.specs.MapCrash.{GoesOnAs}

-- the image stands for this state, its job apart, and what the job has written is in its extents
abbrev pub HasState : Kind → State → Image → Type 0
HasState kind s image = StandsFor kind.spelling s image × UnnamedStand kind.spelling s image

-- each image that a crash may leave now stands for it
abbrev pub EachImageStandsFor : Kind → State → World → Type 0
EachImageStandsFor kind s w = Now (HasState kind s) w

-- at some moment up to now a given number of bytes had been said, and each image that a crash may then leave stands for this state
abbrev pub WasStateAt : Kind → World → ℕ → State → Type 0
WasStateAt kind w n s = (m : ℕ) × (m ≤ w.moment) × (w.beside.said_by m ≡ n) × ((image : Image) → w.leaves m image → HasState kind s image)

-- the image stands for the map of this state
abbrev pub HasMap : Kind → State → Image → Type 0
HasMap kind s image = StandsForMap kind.spelling (state_map s) image

-- or the map that the answer to a request leaves
abbrev pub HasOldOrNewMap : Kind → State → Request → Image → Type 0
HasOldOrNewMap kind s request image = HasMap kind s image ⊎ HasMap kind (answer kind.filter_bytes s request).1 image

-- the map after this reply to the request; after `device` the map before the request or that of its answer
abbrev pub HasMapAfter : Kind → State → Request → Reply → State → Image → Type 0
HasMapAfter kind s request reply next image = HasMap kind next image ⊎ ((reply ≡ Device) × HasOldOrNewMap kind s request image)

-- After some lines, with this state and this text: nothing more had been said, and the image has the state's map; or a part of the
-- reply to the next line had been said, be it none of it, and the image has the map after that reply. It is the one that is said:
-- what was said then goes on as the reply does.
abbrev pub IsAfterPrefix : (Why → Type 0) → Kind → State → List Bytes → Bytes → Bytes → Bytes → Image → Type 0
IsAfterPrefix Cause kind now later answered told then image =
    ((told ≡ answered) × HasMap kind now image)
    ⊎ ((line : Bytes) × (more : List Bytes) × (reply : Reply) × (next : State) × (part : Bytes) × (rest : Bytes) × (later ≡ line ∷ more)
    × Step Cause kind.filter_bytes now (request_of line) reply next × (text_of reply ≡ part ++ rest) × (told ≡ answered ++ part)
    × GoesOnAs rest then × HasMapAfter kind now (request_of line) reply next image)

-- Of all that was said at the end, `told`, n bytes had been said; `before` was said before the run. They are the replies to
-- some first lines, all of them whole, and maybe a part of the next line's reply; and the image has the map after those
-- lines, or after that one more, as it is answered in what was said by the end. So the lines whose change it has are at least
-- those whose whole reply had been said by then, and one more at most; and none that is said to be refused.
pub record KeepsAcknowledged (Cause : Why → Type 0) (kind : Kind) (start : State) (lines : List Bytes) (before told : Bytes) (n : ℕ) (image : Image) : Type 0 where
  pub so_far : List Bytes
  pub later : List Bytes
  pub split : lines ≡ so_far ++ later
  pub text : Bytes
  pub most : ℕ
  pub now : State
  pub answered : AnsweredLines Cause kind.filter_bytes AnyState 0 start so_far text most now
  pub within : n ≤ length told
  pub behind : IsAfterPrefix Cause kind now later (before ++ text) (take n told) (drop n told) image
