-- How the parts of both programs end.
use Rattle.std.specs.Prelude.{◌≡◌, ◌≢◌, ◌⊎◌, ◌<◌, ◌≤◌, ℕ, Bool, IsTrue, [], length}
use Rattle.disk_trait.specs.World.{IsDurable, Now, World}
use Rattle.fst_map.specs.declared.error.FstError.{FstError}
use Rattle.fst_map.specs.declared.error.FstError.TheVariants as fst
use Rattle.line_model.specs.Replies.{Memory, text_of}
use Rattle.lines_in.specs.Causes.{IsServing, NoFall, StatusCause}
use Rattle.lines_in.specs.Reading.{InputRead}
use Rattle.lines_in.specs.Statuses.{damaged_status, device_status, done_status, input_status, limit_status, memory_status, output_status}
use Rattle.lines_in.specs.Unserved.{LastLine, Untouched}
use Rattle.map_file_model.specs.Laws.{IsBody}
use Rattle.map_model.specs.SortedMap.{Bytes, Map}
use Rattle.map_parts.specs.Parts.{seen}
use Rattle.map_run_model.specs.Building.{Built, IsBuiltText, Unbuilt}
use Rattle.map_run_model.specs.Files.{HasMap, HasNoneOrAll, built_body, built_cutoff, max_body_bytes}
use Rattle.map_run_model.specs.LastLines.{damaged_map_text, no_keys_text, no_map_status, too_large_text}
use Rattle.map_run_model.specs.Serving.{HasAnswered, HasEnded, IsOnlyRead}
use Rattle.map_writer.specs.declared.error.FinishError.{FinishError}
use Rattle.map_writer.specs.declared.error.FinishError.TheVariants as finish
use Rattle.outside.specs.During.{During}

-- ---- building

abbrev pub no_body_status : FinishError → ℕ
no_body_status finish.Memory = memory_status
no_body_status finish.NoKeys = no_map_status
no_body_status (finish.Large n) = no_map_status

abbrev pub no_body_text : FinishError → Bytes
no_body_text finish.Memory = text_of Memory
no_body_text finish.NoKeys = no_keys_text
no_body_text (finish.Large n) = too_large_text n

-- the last line where there is no body of these pairs
abbrev pub IsNoBodyText : Map → ℕ → Bytes → Type 0
IsNoBodyText pairs status text =
    ((status ≡ no_map_status) × (pairs ≡ []) × (text ≡ no_keys_text))
    ⊎ ((status ≡ no_map_status) × (max_body_bytes < length (built_body pairs)) × (text ≡ too_large_text (length (built_body pairs))))
    ⊎ ((status ≡ memory_status) × (text ≡ text_of Memory))

-- the map of these pairs was written, or was begun to be
pub record PairsWritten (pairs : Map) (status : ℕ) (old new : World) : Type 0 where
  pub body : IsBody (built_cutoff pairs) pairs (built_body pairs)
  pub fits : length (built_body pairs) ≤ max_body_bytes
  pub line : LastLine (IsBuiltText pairs) status old new
  pub crash : Now (λ image. image 0 ≢ 1) old → During (λ said image. HasNoneOrAll pairs image) old new
  pub built : status ≡ done_status → Now (HasMap pairs) new
  pub held : status ≡ done_status → HasMap pairs new.seen.held

-- the statuses of a run that has read its lines
abbrev pub IsPairsEnd : ℕ → Type 0
IsPairsEnd status = (status ≡ done_status) ⊎ (status ≡ device_status) ⊎ (status ≡ output_status) ⊎ (status ≡ memory_status) ⊎ (status ≡ no_map_status)

-- pairs were read, and their map was written, or there is none
pub record PairsEnd (tells tells_output : Bool) (pairs : Map) (status : ℕ) (old new : World) : Type 0 where
  pub ends : IsTrue tells → IsTrue tells_output → (LastLine (IsNoBodyText pairs) status old new × Untouched old new) ⊎ PairsWritten pairs status old new
  pub input : new.beside.to_take ≡ old.beside.to_take
  pub causes : StatusCause status old new
  pub counts : NoFall old new
  pub statuses : IsPairsEnd status

-- lines were read of an input, after byte 0 of the device was
pub record BuildingEnds {X : Type 0} (world : X → World) (tells tells_input tells_output : Bool) (status : ℕ) (old new : X) : Type 0 where
  pub ends :
      IsTrue tells → IsTrue tells_input → IsTrue tells_output → (world old).seen.held 0 ≢ 1 → IsDurable (world old)
      → Unbuilt status (world old) (world new) ⊎ Built status (world old) (world old) (world new)
  pub causes : StatusCause status (world old) (world new)
  pub counts : NoFall (world old) (world new)
  pub statuses : IsPairsEnd status ⊎ (status ≡ input_status) ⊎ (status ≡ limit_status)

-- ---- serving

abbrev pub status_of : FstError → ℕ
status_of fst.Memory = memory_status
status_of (fst.Fault fault) = damaged_status

abbrev pub no_map_text_of : FstError → Bytes
no_map_text_of fst.Memory = text_of Memory
no_map_text_of (fst.Fault fault) = damaged_map_text (seen fault)

-- the last line of a map for whose serving there was no memory
abbrev pub IsMemoryText : ℕ → Bytes → Type 0
IsMemoryText status text = (status ≡ memory_status) × (text ≡ text_of Memory)

-- lines were answered by a map, or there was no memory, since a first world in which the device was at most read
pub record ServingEnds {X : Type 0} (world : X → World) (tells tells_input tells_output : Bool) (map : Map) (status : ℕ) (old new : X) : Type 0 where
  pub ends :
      (first : X) → IsTrue tells → IsTrue tells_input → IsTrue tells_output → (world old).beside ≡ (world first).beside → IsOnlyRead (world first) (world old)
      → (LastLine IsMemoryText status (world first) (world new) × ((world new).beside.to_take ≡ (world first).beside.to_take) × IsOnlyRead (world first) (world new))
      ⊎ InputRead (λ lines. HasAnswered map lines (world first) (world new) × IsOnlyRead (world first) (world new))
      (λ end lines line. HasEnded map end lines line (world first) (world new) × IsOnlyRead (world first) (world new)) status (world first).beside (world new).beside
  pub causes : StatusCause status (world old) (world new)
  pub counts : NoFall (world old) (world new)
  pub statuses : IsServing status ⊎ (status ≡ memory_status)
  pub early : status ≡ memory_status → (world new).beside.to_take ≡ (world old).beside.to_take
