-- How one line is answered, its merge slice apart.
use Rattle.std.specs.Prelude.{◌≡◌, ◌≢◌, ◌⊎◌, ◌≤◌, ◌+◌, ◌*◌, ◌++◌, ℕ, Bool, false, length, IsTrue}
use Rattle.block_model.specs.Pages.{page_bytes}
use Rattle.disk_trait.specs.World.{Image, World}
use Rattle.line_model.specs.Replies.{Bye, Device, Reply, text_of}
use Rattle.line_model.specs.Requests.{Request}
use Rattle.lines_in.specs.Causes.{EndCause, LineMoves, WritesWithin}
use Rattle.lines_in.specs.declared.line_end.LineEnd.{LineEnd}
use Rattle.lines_in.specs.declared.line_end.LineEnd.TheVariants.{End, Next, Quit}
use Rattle.lines_in.specs.Statuses.{device_status, output_status}
use Rattle.outside.specs.During.{During}
use Rattle.outside.specs.Streams.{SaysPrefix}
use Rattle.state_model.specs.Script.{AtDevice, Onward, Over, turn_of}
use Rattle.state_model.specs.State.{State}
use Rattle.state_model.specs.Steps.{Step}
use Rattle.store_core.specs.Answers.{HasCause}
use Rattle.store_core.specs.StoreValue.{StoreValue}
use Rattle.store_core.specs.Represents.{Represents}
use Rattle.surf_run.specs.Causes.{LineShows, WithinPages}
use Rattle.surf_run.specs.Crash.{EachImageStandsFor, HasMap, HasMapAfter}
use Rattle.surf_run.specs.Dialogue.{IsBounded, reply_bound}
use Rattle.surf_run.specs.Kind.{Kind}

-- Before the reply's first byte an image has the map before the line or the one after the reply; from then on the one after it.
abbrev pub InLine : Kind → State → Request → Reply → State → ℕ → ℕ → ℕ → Image → Type 0
InLine kind old request reply new low high n image =
    ((n ≡ low) × HasMap kind old image) ⊎ ((low ≤ n) × (n ≤ high) × HasMapAfter kind old request reply new image)

-- the request was answered so, with a prefix of the reply said; where it is told how much it may read, no more blocks were read than these
pub record LineAnswer (kind : Kind) (old : State) (request : Request) (reply : Reply) (new : State) (most : ℕ) (a b : World) : Type 0 where
  pub step : Step (HasCause a b) kind.filter_bytes old request reply new
  pub prefix : SaysPrefix (text_of reply) a.beside.said b.beside.said
  pub each : During (InLine kind old request reply new (length a.beside.said) (length b.beside.said)) a b
  pub reads : IsBounded request → b.seen.reads ≤ a.seen.reads + most
  pub writes : WritesWithin (page_bytes * old.pages) a b

-- all of the reply was said
abbrev pub Whole : Reply → World → World → Type 0
Whole reply a b = b.beside.said ≡ a.beside.said ++ text_of reply

-- a reply that is not the last was said whole
abbrev pub SaysOnward : World → World → Type 0
SaysOnward a b = (reply : Reply) × (turn_of reply ≡ Onward) × Whole reply a b

-- how a line ends the run: with a reply said that ends in `device`, or with its reply not said whole
abbrev pub EndStatusOfReply : Kind → ℕ → Reply → State → World → World → Type 0
EndStatusOfReply kind status reply new a b =
    ((status ≡ device_status) × (turn_of reply ≡ Over AtDevice) × Whole reply a b × (reply ≢ Device → EachImageStandsFor kind new b)) ⊎ ((status ≡ output_status) × (reply ≢ Device → EachImageStandsFor kind new b))

-- How a line ended over a store that was that of a state. Where the store is not stopped, it is that of the state after the line.
abbrev pub EndsLine : Kind → LineEnd → State → Request → StoreValue → World → World → Type 0
EndsLine kind Next old request store a b =
    (reply : Reply) × (new : State) × LineAnswer kind old request reply new (reply_bound old request) a b × (turn_of reply ≡ Onward) × Whole reply a b
    × Represents kind.spelling kind.filter_bytes store new b × EachImageStandsFor kind new b
EndsLine kind Quit old request store a b =
    (new : State) × LineAnswer kind old request Bye new (reply_bound old request) a b × Whole Bye a b × EachImageStandsFor kind new b × Represents kind.spelling kind.filter_bytes store new b
EndsLine kind (End status) old request store a b =
    (reply : Reply) × (new : State) × LineAnswer kind old request reply new (reply_bound old request) a b × EndStatusOfReply kind status reply new a b
    × (store.stopped ≡ false → Represents kind.spelling kind.filter_bytes store new b)

-- a line that does not end the run leaves the store running
abbrev pub RunsOn : LineEnd → Bool → Type 0
RunsOn Next stopped = stopped ≡ false
RunsOn Quit stopped = stopped ≡ false
RunsOn (End status) stopped = Unit {0}

-- What answering a request over a running store promises: how the line ends, that the run goes on with a store that runs, why it
-- ends, and what moves. Whether the device and the output tell their bytes is `tells` and `tells_output`.
pub record AnswersLine (kind : Kind) (tells tells_output : Bool) (request : Request) (end : LineEnd) (store new : StoreValue) (a b : World) : Type 0 where
  pub answered : (s : State) → IsTrue tells → IsTrue tells_output → Represents kind.spelling kind.filter_bytes store s a → EndsLine kind end s request new a b
  pub running : RunsOn end new.stopped
  pub cause : EndCause (LineShows (IsTrue tells × IsTrue tells_output) store.tables request) end a b
  pub moves : LineMoves a b
  pub within : WithinPages store new a b
