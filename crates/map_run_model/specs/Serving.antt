-- How a run of `fstserve` ends.
use Rattle.std.specs.Prelude.{◌≡◌, ◌⊎◌, ◌++◌, ◌+◌, ◌≤◌, ℕ, Bool, List, [], ◌∷◌, IsTrue, None, Some}
use Rattle.byte_fields.specs.Faults.{Fault}
use Rattle.disk_trait.specs.World.{Image, World}
use Rattle.line_model.specs.Replies.{Bye, Device, Memory, Reply, text_of}
use Rattle.line_model.specs.Requests.{Quit as QuitRequest}
use Rattle.lines_in.specs.Causes.{Completed, IsServing, NoFall, SomeFailed, StatusCause}
use Rattle.lines_in.specs.Reading.{InputRead}
use Rattle.lines_in.specs.Statuses.{damaged_status, device_status, memory_status, output_status, store_status}
use Rattle.lines_in.specs.Unserved.{Unserved, Untouched}
use Rattle.lines_in.specs.declared.line_end.LineEnd.{LineEnd}
use Rattle.lines_in.specs.declared.line_end.LineEnd.TheVariants.{End, Next, Quit}
use Rattle.map_file_model.specs.Reading.{body_fault, map_in}
use Rattle.map_model.specs.SortedMap.{Bytes, Map}
use Rattle.map_run_model.specs.Files.{IsThere, bytes_read}
use Rattle.map_run_model.specs.LastLines.{damaged_map_text, not_a_map_text}
use Rattle.map_run_model.specs.MapLines.{Answers, IsReplyOf, map_request_of}
use Rattle.outside.specs.Streams.{SaysPrefix}

-- ---- what is read

-- the map on a device, of which no rule of a body is broken
abbrev pub map_on : Image → Map
map_on image = map_in (bytes_read image)

-- The device was read four times at most and not written: what a crash may leave at each moment is what it might have left at the
-- start.
pub record IsOnlyRead (old new : World) : Type 0 where
  pub held : new.seen.held ≡ old.seen.held
  pub reads : new.seen.reads ≤ old.seen.reads + 4
  pub writes : new.seen.write_faults ≡ old.seen.write_faults
  pub crash : Untouched old new

-- ---- no line is answered

-- the last line by its status: no map is there; or one is, and its bytes break this rule first; or the device or memory failed
abbrev pub IsUnservedText : Image → ℕ → Bytes → Type 0
IsUnservedText image status text =
    ((status ≡ store_status) × (IsThere image → ⊥) × (text ≡ not_a_map_text))
    ⊎ ((status ≡ damaged_status) × IsThere image × (fault : Fault) × (body_fault (bytes_read image) ≡ Some fault) × (text ≡ damaged_map_text fault))
    ⊎ ((status ≡ device_status) × (text ≡ text_of Device))
    ⊎ ((status ≡ memory_status) × (text ≡ text_of Memory))

-- ---- lines are answered

-- since the old world these lines were answered by the map, and nothing else was said
pub record HasAnswered (map : Map) (lines : List Bytes) (old new : World) : Type 0 where
  pub text : Bytes
  pub said : new.beside.said ≡ old.beside.said ++ text
  pub answers : Answers map lines text

-- of the reply to this line, after these, a prefix was said, and no more
pub record CutOff (map : Map) (lines : List Bytes) (line : Bytes) (old new : World) : Type 0 where
  pub text : Bytes
  pub reply : Reply
  pub answers : Answers map lines text
  pub is : IsReplyOf map (map_request_of line) reply
  pub said : SaysPrefix (text_of reply) (old.beside.said ++ text) new.beside.said

-- this line, after these, asked to end, and was answered
pub record HasQuit (map : Map) (lines : List Bytes) (line : Bytes) (old new : World) : Type 0 where
  pub text : Bytes
  pub answers : Answers map lines text
  pub quits : map_request_of line ≡ QuitRequest
  pub said : new.beside.said ≡ old.beside.said ++ (text ++ text_of Bye)

-- how a line ended the run, after these lines
abbrev pub HasEnded : Map → LineEnd → List Bytes → Bytes → World → World → Type 0
HasEnded map Next lines line old new = ⊥
HasEnded map Quit lines line old new = HasQuit map lines line old new
HasEnded map (End status) lines line old new = (status ≡ output_status) × CutOff map lines line old new

-- A map is there that breaks no rule, and it answered the lines of the input, to its end, to `quit` or to 2^40 bytes, or until the
-- input or the output failed.
pub record MapServed (status : ℕ) (old new : World) : Type 0 where
  pub there : IsThere old.seen.held
  pub right : body_fault (bytes_read old.seen.held) ≡ None
  pub lines :
      InputRead (λ lines. HasAnswered (map_on old.seen.held) lines old new) (λ end lines line. HasEnded (map_on old.seen.held) end lines line old new) status old.beside new.beside

-- ---- all of it

-- What a run of `fstserve` promises, over a device and streams that are in these worlds and tell their bytes or not.
pub record ServeContract {X : Type 0} (world : X → World) (tells tells_input tells_output : Bool) (status : ℕ) (old new : X) : Type 0 where
  -- It answers the lines of its input by the map on the device, or says why there is none.
  pub ends :
      IsTrue tells → IsTrue tells_input → IsTrue tells_output
      → Unserved (IsUnservedText (world old).seen.held) status (world old) (world new) ⊎ MapServed status (world old) (world new)
  -- Nothing is written, and there are four reads at most.
  pub only : IsTrue tells → IsTrue tells_input → IsTrue tells_output → IsOnlyRead (world old) (world new)
  -- Statuses 3, 4 and 6 come only where the count of such faults rose in this run.
  pub causes : StatusCause status (world old) (world new)
  pub counts : NoFall (world old) (world new)
  -- Where a map is there that breaks no rule and no call fails, each line is answered, to the end of the input, to `quit` or to 2^40
  -- bytes; or there was no memory, before the first byte was taken.
  pub complete :
      IsTrue tells → IsTrue tells_input → IsTrue tells_output → IsThere (world old).seen.held → body_fault (bytes_read (world old).seen.held) ≡ None
      → (SomeFailed (world old) (world new) → ⊥) → Completed status (world old) (world new)
  pub statuses : IsServing status ⊎ (status ≡ damaged_status) ⊎ (status ≡ memory_status) ⊎ (status ≡ store_status)
