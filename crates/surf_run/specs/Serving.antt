-- How far a run has come.
use Rattle.std.specs.Prelude.{◌≡◌, ◌⊎◌, ◌≤◌, ◌+◌, ◌*◌, ℕ, List, ◌∷◌, ◌++◌, length}
use Rattle.block_model.specs.Pages.{page_bytes}
use Rattle.disk_trait.specs.World.{World}
use Rattle.line_model.specs.Replies.{Bye, Reply}
use Rattle.lines_in.specs.Causes.{NoFall, WritesWithin}
use Rattle.lines_in.specs.declared.line_end.LineEnd.{LineEnd}
use Rattle.lines_in.specs.declared.line_end.LineEnd.TheVariants.{End, Next, Quit}
use Rattle.lines_in.specs.Statuses.{device_status, output_status}
use Rattle.map_model.specs.SortedMap.{Bytes}
use Rattle.outside.specs.During.{During}
use Rattle.state_model.specs.Script.{AtDevice, AtQuit, Ending, Script}
use Rattle.state_model.specs.Sound.{IsSound}
use Rattle.state_model.specs.State.{State}
use Rattle.store_core.specs.Answers.{HasCause}
use Rattle.store_core.specs.StoreValue.{StoreValue}
use Rattle.store_core.specs.Represents.{Represents}
use Rattle.surf_run.specs.Crash.{EachImageStandsFor, KeepsAcknowledged, WasStateAt}
use Rattle.surf_run.specs.Dialogue.{AnsweredLines, AreBounded}
use Rattle.surf_run.specs.Kind.{Kind}
use Rattle.surf_run.specs.Outcome.{LastReply, ReplyCutOffAt}

-- Since the first world these lines were answered. What a crash leaves is told whatever is said then, since each reply was said whole.
pub record ServeInvariant (kind : Kind) (start : State) (base : ℕ) (lines : List Bytes) (store : StoreValue) (first w : World) : Type 0 where
  pub text : Bytes
  pub most : ℕ
  pub now : State
  pub ran : AnsweredLines (HasCause first w) kind.filter_bytes (WasStateAt kind w) (length first.beside.said) start lines text most now
  pub sound : IsSound kind.filter_bytes start
  pub told : w.beside.said ≡ first.beside.said ++ text
  pub history : (then : Bytes) → During (KeepsAcknowledged (HasCause first w) kind start lines first.beside.said (w.beside.said ++ then)) first w
  pub tied : Represents kind.spelling kind.filter_bytes store now w
  pub stand : EachImageStandsFor kind now w
  pub counts : NoFall first w
  pub reads : AreBounded lines → w.seen.reads ≤ base + most
  pub pages : now.pages ≡ start.pages
  pub writes : WritesWithin (page_bytes * start.pages) first w

-- all that is to be said was said for these lines and this one, whatever lines may follow
pub record EndedByReply (kind : Kind) (ending : Ending) (start : State) (lines : List Bytes) (line : Bytes) (first w : World) : Type 0 where
  pub text : Bytes
  pub told : w.beside.said ≡ first.beside.said ++ text
  pub script : (more : List Bytes) → Script (HasCause first w) kind.filter_bytes (WasStateAt kind w) (length first.beside.said) start (lines ++ line ∷ more) text ending
  pub writes : WritesWithin (page_bytes * start.pages) first w

-- how a line ended the run, after these lines
abbrev pub EndedAt : Kind → LineEnd → State → ℕ → List Bytes → Bytes → World → World → Type 0
EndedAt kind Next start base lines line first w = ⊥
EndedAt kind Quit start base lines line first w = EndedByReply kind AtQuit start lines line first w × LastReply kind AtQuit Bye start base lines line first w
EndedAt kind (End status) start base lines line first w =
    ((status ≡ device_status) × EndedByReply kind AtDevice start lines line first w × (reply : Reply) × LastReply kind AtDevice reply start base lines line first w)
    ⊎ ((status ≡ output_status) × ReplyCutOffAt kind start base lines line first w × WritesWithin (page_bytes * start.pages) first w)
