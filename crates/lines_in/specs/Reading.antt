-- Lines that are read one after the other, and how the reading of an input ends.
use Rattle.std.specs.Prelude.{◌≡◌, ◌⊎◌, ◌<◌, ◌≤◌, ◌++◌, ℕ, List, [], ◌∷◌, length, flat_map, All}
use Rattle.disk_trait.specs.World.{Streams, World}
use Rattle.key_base.specs.Limits.{max_input_bytes, piece_bytes}
use Rattle.line_model.specs.Lines.{lines_of, whole_lines}
use Rattle.lines_in.specs.Causes.{TakeFailed}
use Rattle.lines_in.specs.Holding.{PendingLine, with_newline}
use Rattle.lines_in.specs.Statuses.{done_status, input_status, limit_status}
use Rattle.lines_in.specs.Taken.{TakenAll, TakenPast}
use Rattle.lines_in.specs.declared.line_end.LineEnd.{LineEnd}
use Rattle.lines_in.specs.declared.line_end.LineEnd.TheVariants.{End, Next, Quit}
use Rattle.map_model.specs.SortedMap.{Bytes}
use Rattle.store_commands.specs.Cutting.{NoNewline}

-- what is so after a line: where the next one follows, and where the run ends at it
abbrev pub AfterLine : LineEnd → Type 0 → (LineEnd → Type 0) → Type 0
AfterLine Next Goes Ended = Goes
AfterLine Quit Goes Ended = Ended Quit
AfterLine (End status) Goes Ended = Ended (End status)

-- the end of the run by a line has its cause
abbrev pub HasEndCause : (ℕ → Type 0) → LineEnd → Type 0
HasEndCause Cause Next = Unit {0}
HasEndCause Cause Quit = Unit {0}
HasEndCause Cause (End status) = Cause status

-- the status of a run that ends so
abbrev pub IsStatusOf : LineEnd → ℕ → Type 0
IsStatusOf Next status = ⊥
IsStatusOf Quit status = status ≡ done_status
IsStatusOf (End ends) status = status ≡ ends

-- ---- on the way

-- Of these bytes the whole lines were read, and this is so of them; the rest is kept.
pub record ReadSoFar (most : ℕ) (HasRead : List Bytes → Type 0) (bytes kept : Bytes) : Type 0 where
  pub lines : List Bytes
  pub rest : Bytes
  pub split : bytes ≡ flat_map with_newline lines ++ rest
  pub whole : All NoNewline lines
  pub open_end : NoNewline rest
  pub held : PendingLine most rest kept
  pub read : HasRead lines

-- Some lines were read, and the run ended at this one, after which are fewer bytes than these.
pub record EndedPast (past : ℕ) (Ended : List Bytes → Bytes → Type 0) (bytes : Bytes) : Type 0 where
  pub lines : List Bytes
  pub line : Bytes
  pub taken : TakenPast past bytes (lines ++ line ∷ [])
  pub ended : Ended lines line

-- how the lines of a part of the input ended
abbrev pub AfterPart : ℕ → ℕ → (List Bytes → Type 0) → (LineEnd → List Bytes → Bytes → Type 0) → Bytes → Bytes → LineEnd → Type 0
AfterPart most past HasRead Ended bytes kept end = AfterLine end (ReadSoFar most HasRead bytes kept) (λ e. EndedPast past (Ended e) bytes)

-- ---- the whole input

-- The run ended at a last line without its newline.
pub record EndedAtLast (Ended : List Bytes → Bytes → Type 0) (taken : Bytes) : Type 0 where
  pub lines : List Bytes
  pub line : Bytes
  pub all : TakenAll taken lines line
  pub some : 0 < length line
  pub ended : Ended lines line

-- How reading an input came to this status: all its lines were read; or it was cut off, and a rest without a newline is no line; or
-- a line ended the run, with less than a piece taken after it.
abbrev pub EndOfReading : Type 0 → (List Bytes → Type 0) → (LineEnd → List Bytes → Bytes → Type 0) → ℕ → Bytes → Type 0
EndOfReading AtEnd HasRead Ended status taken =
    ((status ≡ done_status) × AtEnd × (length taken < max_input_bytes) × HasRead (lines_of taken))
    ⊎ (((status ≡ input_status) ⊎ (status ≡ limit_status)) × HasRead (whole_lines taken))
    ⊎ ((end : LineEnd) × IsStatusOf end status × (EndedPast piece_bytes (Ended end) taken ⊎ (AtEnd × EndedAtLast (Ended end) taken)))

-- with what was taken
pub record InputRead (HasRead : List Bytes → Type 0) (Ended : LineEnd → List Bytes → Bytes → Type 0) (status : ℕ) (old new : Streams) : Type 0 where
  pub taken : Bytes
  pub input : old.to_take ≡ taken ++ new.to_take
  pub ended : EndOfReading (new.to_take ≡ []) HasRead Ended status taken
  pub limit : status ≡ limit_status → length taken ≡ max_input_bytes
  pub most : length taken ≤ max_input_bytes

-- why reading an input ended so: all was read, the input failed, as much was taken as may be, or a line ended it for this cause
abbrev pub ReadingCause : (ℕ → Type 0) → ℕ → World → World → Type 0
ReadingCause Cause status old new = (status ≡ done_status) ⊎ ((status ≡ input_status) × TakeFailed old new) ⊎ (status ≡ limit_status) ⊎ Cause status
