-- How a run of `fstbuild` ends.
use Rattle.std.specs.Prelude.{◌≡◌, ◌≢◌, ◌⊎◌, ◌++◌, ◌<◌, ◌≤◌, ℕ, Bool, List, [], ◌∷◌, length, IsTrue, Ok, Err}
use Rattle.disk_trait.specs.World.{Image, IsDurable, Now, Passes, Same, World}
use Rattle.key_base.specs.Limits.{max_input_bytes, piece_bytes}
use Rattle.line_model.specs.Lines.{lines_of, whole_lines}
use Rattle.line_model.specs.Replies.{Device, Memory, text_of}
use Rattle.lines_in.specs.Causes.{NoFall, SomeFailed, StatusCause}
use Rattle.lines_in.specs.Statuses.{device_status, done_status, input_status, limit_status, memory_status, output_status, store_status}
use Rattle.lines_in.specs.Taken.{TakenAll, TakenPast}
use Rattle.lines_in.specs.Unserved.{LastLine, Untouched}
use Rattle.map_file_model.specs.Laws.{IsBody}
use Rattle.map_model.specs.SortedMap.{Bytes, Map}
use Rattle.map_run_model.specs.Files.{HasMap, HasNoneOrAll, built_body, built_cutoff, max_body_bytes}
use Rattle.map_run_model.specs.LastLines.{built_text, no_keys_text, no_map_status, refusal_text, taken_text, too_large_text}
use Rattle.map_run_model.specs.PairLines.{Refusal, pairs_of}
use Rattle.outside.specs.During.{During}

-- ---- why nothing is written

-- A line, after which less than a piece was taken, is the first that these lines are no map for. Without a newline it is not empty, and
-- the input is at its end.
pub record RefusesLine (AtEnd : Type 0) (taken text : Bytes) : Type 0 where
  pub lines : List Bytes
  pub line : Bytes
  pub to : TakenPast piece_bytes taken (lines ++ line ∷ []) ⊎ (AtEnd × TakenAll taken lines line × (0 < length line))
  pub before : (pairs : Map) × (pairs_of lines ≡ Ok pairs)
  pub why : Refusal
  pub refused : pairs_of (lines ++ line ∷ []) ≡ Err why
  pub text_is : text ≡ refusal_text why

-- the body of all lines would be too large
pub record IsTooLarge (taken text : Bytes) : Type 0 where
  pub pairs : Map
  pub lines : pairs_of (lines_of taken) ≡ Ok pairs
  pub large : max_body_bytes < length (built_body pairs)
  pub text_is : text ≡ too_large_text (length (built_body pairs))

-- what was taken is no map: for a line of it; or as a whole, where the input is at its end
abbrev pub IsNoMap : Type 0 → Bytes → Bytes → Type 0
IsNoMap AtEnd taken text = RefusesLine AtEnd taken text ⊎ (AtEnd × (lines_of taken ≡ []) × (text ≡ no_keys_text)) ⊎ (AtEnd × IsTooLarge taken text)

-- The last line by its status, none at 3 and 9. Of a device that has a map nothing is taken.
abbrev pub IsUnbuiltText : Image → Type 0 → Bytes → ℕ → Bytes → Type 0
IsUnbuiltText image AtEnd taken status text =
    ((status ≡ store_status) × (image 0 ≡ 1) × (taken ≡ []) × (text ≡ taken_text))
    ⊎ ((status ≡ no_map_status) × (image 0 ≢ 1) × IsNoMap AtEnd taken text)
    ⊎ ((status ≡ device_status) × (taken ≡ []) × (text ≡ text_of Device))
    ⊎ ((status ≡ memory_status) × (image 0 ≢ 1) × (text ≡ text_of Memory))
    ⊎ (((status ≡ input_status) ⊎ ((status ≡ limit_status) × (length taken ≡ max_input_bytes))) × (image 0 ≢ 1) × (text ≡ []) × (pairs : Map) × (pairs_of (whole_lines taken) ≡ Ok pairs))

-- Nothing was built, and nothing written.
pub record Unbuilt (status : ℕ) (old new : World) : Type 0 where
  pub taken : Bytes
  pub input : old.beside.to_take ≡ taken ++ new.beside.to_take
  pub line : LastLine (IsUnbuiltText old.seen.held (new.beside.to_take ≡ []) taken) status old new
  pub crash : Untouched old new

-- ---- a map that is written

-- The device was synced, and byte 0 of it was read, which is not 1: what a crash may leave now is what it reads as.
pub record GateIsClosed (old asked : World) : Type 0 where
  pub closed : old.seen.held 0 ≢ 1
  pub held : asked.seen.held ≡ old.seen.held
  pub durable : IsDurable asked
  pub beside : asked.beside ≡ old.beside
  pub time : Passes Same old asked

-- the last line of a run that wrote, by its status
abbrev pub IsBuiltText : Map → ℕ → Bytes → Type 0
IsBuiltText pairs status text = ((status ≡ done_status) × (text ≡ built_text (length pairs))) ⊎ ((status ≡ device_status) × (text ≡ text_of Device))

-- The input was read to its end, and the map of its lines was written, or was begun to be: from the reading of byte 0 on each image
-- has no map or all of this one. At status 0 each one has it.
pub record Built (status : ℕ) (old asked new : World) : Type 0 where
  pub gate : GateIsClosed old asked
  pub taken : Bytes
  pub input : old.beside.to_take ≡ taken
  pub at_end : new.beside.to_take ≡ []
  pub pairs : Map
  pub lines : pairs_of (lines_of taken) ≡ Ok pairs
  pub body : IsBody (built_cutoff pairs) pairs (built_body pairs)
  pub fits : length (built_body pairs) ≤ max_body_bytes
  pub line : LastLine (IsBuiltText pairs) status old new
  pub crash : During (λ said image. HasNoneOrAll pairs image) asked new
  pub built : status ≡ done_status → Now (HasMap pairs) new
  pub held : status ≡ done_status → HasMap pairs new.seen.held

-- ---- all of it

-- where no call failed
abbrev pub IsBuildEnd : ℕ → Type 0
IsBuildEnd status = (status ≡ done_status) ⊎ (status ≡ memory_status) ⊎ (status ≡ store_status) ⊎ (status ≡ limit_status) ⊎ (status ≡ no_map_status)

-- What a run of `fstbuild` promises, over a device and streams that are in these worlds and tell their bytes or not.
pub record BuildContract {X : Type 0} (world : X → World) (tells tells_input tells_output : Bool) (status : ℕ) (old new : X) : Type 0 where
  -- It writes the map of its lines, or nothing, and says which.
  pub ends :
      IsTrue tells → IsTrue tells_input → IsTrue tells_output
      → Unbuilt status (world old) (world new) ⊎ ((asked : X) × Built status (world old) (world asked) (world new))
  -- Statuses 3, 4 and 6 come only where the count of such faults rose in this run.
  pub causes : StatusCause status (world old) (world new)
  pub counts : NoFall (world old) (world new)
  -- Where no call fails the map is built, or one is there, or the lines are no map or too many bytes, or there was no memory.
  pub complete : (SomeFailed (world old) (world new) → ⊥) → IsBuildEnd status
  pub statuses : IsBuildEnd status ⊎ (status ≡ input_status) ⊎ (status ≡ device_status) ⊎ (status ≡ output_status)
