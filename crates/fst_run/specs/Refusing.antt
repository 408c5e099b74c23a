-- How far the reading of pairs has come, and why a line ends it.
use Rattle.std.specs.Prelude.{◌≡◌, ◌⊎◌, ◌++◌, ℕ, List, [], ◌∷◌, Ok, Err, Result}
use Rattle.disk_trait.specs.World.{World}
use Rattle.fst_run.specs.declared.pair_lines.LineRefusal.{LineRefusal}
use Rattle.fst_run.specs.declared.pair_lines.LineRefusal.TheVariants as refusal
use Rattle.line_model.specs.Replies.{Memory, text_of}
use Rattle.lines_in.specs.Causes.{SayFailed}
use Rattle.lines_in.specs.Statuses.{memory_status, output_status}
use Rattle.lines_in.specs.Unserved.{LastLine, Untouched}
use Rattle.lines_in.specs.declared.line_end.LineEnd.{LineEnd}
use Rattle.lines_in.specs.declared.line_end.LineEnd.TheVariants.{End, Next, Quit}
use Rattle.map_model.specs.SortedMap.{Bytes, Map}
use Rattle.map_run_model.specs.LastLines.{no_map_status, refusal_text}
use Rattle.map_run_model.specs.PairLines.{BadAt, Refusal, TooMany, pairs_of}

-- ---- a line

-- the refusal in the model's words, which want of memory is not
abbrev pub IsRefusal : LineRefusal → Result Map Refusal → Type 0
IsRefusal refusal.Memory made = Unit {0}
IsRefusal (refusal.Bad number code) made = made ≡ Err (BadAt number code)
IsRefusal refusal.TooMany made = made ≡ Err TooMany

-- what is said of it, and the status
abbrev pub said_text : LineRefusal → Bytes
said_text refusal.Memory = text_of Memory
said_text (refusal.Bad number code) = refusal_text (BadAt number code)
said_text refusal.TooMany = refusal_text TooMany

abbrev pub said_status : LineRefusal → ℕ
said_status refusal.Memory = memory_status
said_status (refusal.Bad number code) = no_map_status
said_status refusal.TooMany = no_map_status

-- ---- lines

-- since the old world these lines were read and have these pairs; nothing was said or written
pub record HasPairs (lines : List Bytes) (pairs : Map) (old new : World) : Type 0 where
  pub pairs_are : pairs_of lines ≡ Ok pairs
  pub held : new.seen.held ≡ old.seen.held
  pub said : new.beside.said ≡ old.beside.said
  pub crash : Untouched old new

-- the last line at a line that these lines are no map for, or for whose pair there was no memory
abbrev pub IsRefusalText : List Bytes → Bytes → ℕ → Bytes → Type 0
IsRefusalText lines line status text =
    ((status ≡ no_map_status) × (pairs : Map) × (pairs_of lines ≡ Ok pairs) × (why : Refusal) × (pairs_of (lines ++ line ∷ []) ≡ Err why) × (text ≡ refusal_text why))
    ⊎ ((status ≡ memory_status) × (text ≡ text_of Memory))

-- a line ended the reading so
abbrev pub HasRefused : LineEnd → List Bytes → Bytes → World → World → Type 0
HasRefused Next lines line old new = ⊥
HasRefused Quit lines line old new = ⊥
HasRefused (End status) lines line old new = LastLine (IsRefusalText lines line) status old new × Untouched old new

-- why it ended with this status
abbrev pub RefusalCause : ℕ → World → World → Type 0
RefusalCause status old new = (status ≡ no_map_status) ⊎ (status ≡ memory_status) ⊎ ((status ≡ output_status) × SayFailed old new)
