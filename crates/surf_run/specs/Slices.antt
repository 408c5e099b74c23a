-- What the merge slice after a line does, and a line with it.
use Rattle.std.specs.Prelude.{◌≡◌, ◌≢◌, ◌⊎◌, ◌≤◌, ◌+◌, ◌*◌, ℕ, Bool, false, length, IsTrue}
use Rattle.block_model.specs.Pages.{page_bytes}
use Rattle.disk_trait.specs.World.{Meanwhile, World}
use Rattle.line_model.specs.Replies.{Bye, Device, Reply}
use Rattle.line_model.specs.Requests.{Request}
use Rattle.lines_in.specs.Causes.{EndCause, LineMoves, NoFall, WritesWithin}
use Rattle.lines_in.specs.declared.line_end.LineEnd.{LineEnd}
use Rattle.lines_in.specs.declared.line_end.LineEnd.TheVariants.{End, Next, Quit}
use Rattle.lines_in.specs.Statuses.{device_status, output_status}
use Rattle.state_model.specs.Script.{AtDevice, Between, Onward, Over, turn_of, turn_of_slice}
use Rattle.state_model.specs.State.{State}
use Rattle.state_model.specs.Tends.{Tend, Tended}
use Rattle.store_core.specs.Answers.{HasCause}
use Rattle.store_core.specs.StoreValue.{StoreValue}
use Rattle.store_core.specs.Represents.{Represents}
use Rattle.surf_run.specs.Answering.{LineAnswer, RunsOn, Whole}
use Rattle.surf_run.specs.Causes.{ServedShows, SliceShows, WithinPages}
use Rattle.surf_run.specs.Crash.{EachImageStandsFor, HasMap, WasStateAt}
use Rattle.surf_run.specs.Dialogue.{line_bound}
use Rattle.surf_run.specs.Kind.{Kind}

-- ---- a merge slice

-- where the store is not stopped, it is that of the state
abbrev pub TiedRunning : Kind → StoreValue → State → World → Type 0
TiedRunning kind store s w = store.stopped ≡ false → Represents kind.spelling kind.filter_bytes store s w

-- How a merge slice ended over a store that was that of a state: the next line follows, or the device failed. Where the store is
-- not stopped, it is that of the state after the slice.
abbrev pub EndsSlice : Kind → LineEnd → State → StoreValue → World → World → Type 0
EndsSlice kind Next s store a b =
    (tended : Tended) × (after : State) × Tend (HasCause a b) kind.filter_bytes s tended after × (Onward ≡ turn_of_slice tended)
    × Represents kind.spelling kind.filter_bytes store after b × EachImageStandsFor kind after b
EndsSlice kind Quit s store a b = ⊥
EndsSlice kind (End status) s store a b =
    (status ≡ device_status) × (tended : Tended) × (after : State) × Tend (HasCause a b) kind.filter_bytes s tended after × (Over AtDevice ≡ turn_of_slice tended)
    × TiedRunning kind store after b

-- It ended so; at each moment meanwhile a crash leaves the map that was there, and no more blocks were read than these.
pub record SliceMade (most : ℕ) (kind : Kind) (end : LineEnd) (s : State) (store : StoreValue) (a b : World) : Type 0 where
  pub ends : EndsSlice kind end s store a b
  pub crash : Meanwhile (HasMap kind s) a b
  pub reads : b.seen.reads ≤ a.seen.reads + most
  pub writes : WritesWithin (page_bytes * s.pages) a b

-- What a merge slice of at most a given number of blocks promises over a running store, whatever the device holds: nothing is said or taken,
-- and why the run ends.
pub record MakesSlice (most : ℕ) (kind : Kind) (tells : Bool) (end : LineEnd) (store new : StoreValue) (a b : World) : Type 0 where
  pub made : (s : State) → IsTrue tells → Represents kind.spelling kind.filter_bytes store s a → SliceMade most kind end s new a b
  pub silent : b.beside ≡ a.beside
  pub running : RunsOn end new.stopped
  pub cause : EndCause (SliceShows (IsTrue tells) new.tables) end a b
  pub counts : NoFall a b
  pub within : WithinPages store new a b

-- ---- a line with its merge slice

-- How a line ends the run: with a reply said that ends in `device`; with its reply not said whole; or with a fault of the device
-- in the merge slice after its reply.
abbrev pub EndStatusOfLine : Kind → ℕ → Request → Reply → State → StoreValue → World → World → Type 0
EndStatusOfLine kind status request reply new store a b =
    ((status ≡ device_status) × (turn_of reply ≡ Over AtDevice) × Whole reply a b × (reply ≢ Device → EachImageStandsFor kind new b) × TiedRunning kind store new b)
    ⊎ ((status ≡ output_status) × (reply ≢ Device → EachImageStandsFor kind new b) × TiedRunning kind store new b)
    ⊎ ((status ≡ device_status) × (turn_of reply ≡ Onward) × Whole reply a b × WasStateAt kind b (length b.beside.said) new
    × (after : State) × Between (HasCause a b) kind.filter_bytes request new (Over AtDevice) after × TiedRunning kind store after b)

-- How a line with its merge slice ended over a store that was that of a state. Where the next line follows, the state after the
-- reply stood as it had been said, and the store is that of the state after the slice.
abbrev pub EndsServed : Kind → LineEnd → State → Request → StoreValue → World → World → Type 0
EndsServed kind Next old request store a b =
    (reply : Reply) × (new : State) × (after : State) × LineAnswer kind old request reply new (line_bound old request) a b × (turn_of reply ≡ Onward) × Whole reply a b
    × WasStateAt kind b (length b.beside.said) new × Between (HasCause a b) kind.filter_bytes request new Onward after
    × Represents kind.spelling kind.filter_bytes store after b × EachImageStandsFor kind after b
EndsServed kind Quit old request store a b =
    (new : State) × LineAnswer kind old request Bye new (line_bound old request) a b × Whole Bye a b × EachImageStandsFor kind new b × Represents kind.spelling kind.filter_bytes store new b
EndsServed kind (End status) old request store a b =
    (reply : Reply) × (new : State) × LineAnswer kind old request reply new (line_bound old request) a b × EndStatusOfLine kind status request reply new store a b

-- What serving a line promises over a running store: how it ends, with the merge slice after a put and a delete; that the run
-- goes on with a store that runs; why it ends; and what moves.
pub record ServesLine (kind : Kind) (tells tells_output : Bool) (request : Request) (end : LineEnd) (store new : StoreValue) (a b : World) : Type 0 where
  pub served : (s : State) → IsTrue tells → IsTrue tells_output → Represents kind.spelling kind.filter_bytes store s a → EndsServed kind end s request new a b
  pub running : RunsOn end new.stopped
  pub cause : EndCause (ServedShows (IsTrue tells × IsTrue tells_output) store.tables new.tables request) end a b
  pub moves : LineMoves a b
  pub within : WithinPages store new a b
