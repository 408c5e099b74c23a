-- What a run says that opens a store only to read it, and that it changes nothing.
use Rattle.std.specs.Prelude.{◌≡◌, ◌⊎◌, ◌≤◌, ◌+◌, ◌-◌, ◌^◌, ◌++◌, ℕ, Bool, List, IsTrue, flat_map, length}
use Rattle.byte_fields.specs.Faults.{Fault}
use Rattle.disk_trait.specs.World.{Image, World}
use Rattle.extent_model.specs.Gaps.{largest_gap}
use Rattle.filter_api.specs.Spellings.{Spelling}
use Rattle.image_model.specs.Stands.{IsStateOf}
use Rattle.key_base.specs.Limits.{first_table_page}
use Rattle.manifest_model.specs.Slots.{IsNoStore}
use Rattle.line_model.specs.Replies.{Device, Memory, text_of}
use Rattle.map_model.specs.SortedMap.{Bytes, Map}
use Rattle.merge_rows.specs.Merges.{TableWalk}
use Rattle.merge_rows.specs.Reads.{PassSound}
use Rattle.state_model.specs.Logs.{filled_by}
use Rattle.state_model.specs.Merges.{greatest_key, least_key}
use Rattle.state_model.specs.State.{State}
use Rattle.state_model.specs.Taken.{taken}
use Rattle.state_model.specs.View.{state_map}
use Rattle.store_commands.specs.Puts.{puts_text}
use Rattle.store_core.specs.Numbering.{pages_left}
use Rattle.store_core.specs.Opening.{IsOpenedAs}
use Rattle.store_core.specs.Scans.{AreAllSound, AreDoneUpTo, ScanWalk}
use Rattle.store_core.specs.StoreValue.{StoreValue}
use Rattle.store_core.specs.declared.numbers.Numbers.{Numbers}
use Rattle.store_report.specs.Texts.{row_text, store_text, table_text}
use Rattle.lines_in.specs.Causes.{DiskFailed, SayFailed, SomeFailed, StatusCause}
use Rattle.surf_run.specs.Causes.{ShowsSomeDamage}
use Rattle.surf_run.specs.Checks.{ChangesNothing}
use Rattle.surf_run.specs.Open.{IsFreeText, OpeningEnds}
use Rattle.surf_run.specs.ServedOrNot.{HasNoState, TellsDamage}
use Rattle.lines_in.specs.Statuses.{damaged_status, device_status, done_status, memory_status, output_status, store_status}
use Rattle.lines_in.specs.Unserved.{LastLine}
use Rattle.table_file.specs.Opened.{Opened}
use Rattle.table_file.specs.Search.{row_at}
use Rattle.table_model.specs.Tables.{Table}

-- ---- the text of `tables`

abbrev pub text_of_table : Table → Bytes
text_of_table t = table_text t.level t.first_page t.pages (length t.entries) t.settings (least_key t) (greatest_key t)

abbrev pub text_of_store : State → Bytes
text_of_store s = store_text s.pages (pages_left (s.pages - first_table_page) (taken s)) (largest_gap s.pages (taken s)) s.epoch (filled_by s.log) s.settings

-- a line for each table, then that of the store
abbrev pub tables_text : State → Bytes
tables_text s = flat_map text_of_table s.tables ++ text_of_store s

-- the same of open tables, and of numbers
abbrev pub text_of_opened : Opened → Bytes
text_of_opened t = row_text t.row t.index.least (row_at t.index.rows (length t.index.rows - 1)).last

abbrev pub text_of_numbers : Numbers → Bytes
text_of_numbers n = store_text n.pages n.free n.gap n.epoch n.log_bytes n.settings

-- all of it; or that the device failed, or that there was no memory, and nothing else
abbrev pub IsTablesText : State → ℕ → Bytes → Type 0
IsTablesText s status text = ((status ≡ done_status) × (text ≡ tables_text s)) ⊎ IsFreeText status text

-- ---- the text of `dump`

-- all pairs, each as the line that puts it; or the first ones where the device failed, and that it did
abbrev pub IsPairsText : Map → ℕ → Bytes → Type 0
IsPairsText m status text =
    ((status ≡ done_status) × (text ≡ puts_text m))
    ⊎ ((status ≡ device_status) × (first : Map) × (later : Map) × (m ≡ first ++ later) × (text ≡ puts_text first ++ text_of Device))

-- the pairs of a state; or that there was no memory, and nothing else
abbrev pub IsDumpText : State → ℕ → Bytes → Type 0
IsDumpText s status text = IsPairsText (state_map s) status text ⊎ ((status ≡ memory_status) × (text ≡ text_of Memory))

-- how the saying of pairs ends: all were said, or the device failed, or a block of a table is damaged, or the output failed
abbrev pub EndsPairs : ℕ → World → World → Type 0
EndsPairs status old new =
    (status ≡ done_status) ⊎ ((status ≡ device_status) × DiskFailed old new) ⊎ (status ≡ damaged_status) ⊎ ((status ≡ output_status) × SayFailed old new)

-- ---- what `dump` went along

-- The walks of a scan, from where they began, went over sound blocks alone to the ends of their tables, or to an entry above the upper
-- bound.
pub record WentAlong (scan : ScanWalk) (image : Image) : Type 0 where
  pub walks : List TableWalk
  pub passes : PassSound scan.tables image scan.merge.walks walks
  pub done : AreDoneUpTo scan.high scan.tables walks

-- the image opens, and each block of each table of its version is sound
pub record HasSoundBlocks (spelling : Spelling) (image : Image) : Type 0 where
  pub store : StoreValue
  pub opens : IsOpenedAs spelling image store
  pub sound : AreAllSound store.tables image

-- as many lines were said as a number holds
abbrev pub SaidAllNumbers : World → World → Type 0
SaidAllNumbers old new = 2 ^ 64 - 1 + length old.beside.said ≤ length new.beside.said

-- ---- the statuses

abbrev pub IsReading : ℕ → Type 0
IsReading status =
    (status ≡ done_status) ⊎ (status ≡ device_status) ⊎ (status ≡ damaged_status) ⊎ (status ≡ output_status) ⊎ (status ≡ memory_status) ⊎ (status ≡ store_status)

-- where no call fails
abbrev pub IsReadingEnd : ℕ → Type 0
IsReadingEnd status = (status ≡ done_status) ⊎ (status ≡ damaged_status) ⊎ (status ≡ memory_status) ⊎ (status ≡ store_status)

-- ---- the whole

-- How a run ends that opens a store only to read it, whatever it says. No store and damage that opening finds are told as to every run
-- that opens one, and 8 comes only where no store is there. A status that tells of a fault has its cause, and where no call fails none
-- comes. Nothing changes.
pub record ReadingEnds (spelling : Spelling) (first_fault : Bytes → Fault) (tells tells_output : Bool) (status : ℕ) (old new : World) : Type 0 where
  pub opening : OpeningEnds spelling first_fault tells tells_output status old new
  pub only_at_no_store : IsTrue tells → status ≡ store_status → IsNoStore old.seen.held
  pub causes : StatusCause status old new
  pub ends : (SomeFailed old new → ⊥) → IsReadingEnd status
  pub statuses : IsReading status
  pub changes : ChangesNothing old new

-- How `tables` ends. Where what the device holds represents this state, its lines are the state's tables and numbers; where no call fails
-- they are said whole, but for want of memory. 5 comes only of damage that opening finds.
pub record TablesEnds (spelling : Spelling) (first_fault : Bytes → Fault) (tells tells_output : Bool) (status : ℕ) (old new : World) : Type 0 where
  pub lines : (s : State) → IsTrue tells → IsTrue tells_output → IsStateOf spelling s old.seen.held → LastLine (IsTablesText s) status old new
  pub complete : (s : State) → IsTrue tells → IsStateOf spelling s old.seen.held → (SomeFailed old new → ⊥) → (status ≡ done_status) ⊎ (status ≡ memory_status)
  pub only_at_damage : IsTrue tells → IsTrue tells_output → status ≡ damaged_status → TellsDamage spelling first_fault old.seen.held old new
  pub reading : ReadingEnds spelling first_fault tells tells_output status old new

-- How `dump` ends. Where what the device holds represents this state, its lines put the pairs of the state's map: with 0 all of them, by
-- rising keys. Where no call fails they are said whole, but for want of memory. 5 comes of damage that opening finds; or of that of a
-- block, and then no state is there, and nothing is said here of the lines before it. Whatever the device holds, 0 comes only where
-- each block of each table is sound, unless as many lines were said as a number holds.
pub record DumpEnds (spelling : Spelling) (first_fault : Bytes → Fault) (tells tells_output : Bool) (status : ℕ) (old new : World) : Type 0 where
  pub lines : (s : State) → IsTrue tells → IsTrue tells_output → IsStateOf spelling s old.seen.held → LastLine (IsDumpText s) status old new
  pub complete : (s : State) → IsTrue tells → IsStateOf spelling s old.seen.held → (SomeFailed old new → ⊥) → (status ≡ done_status) ⊎ (status ≡ memory_status)
  pub only_at_damage : IsTrue tells → IsTrue tells_output → status ≡ damaged_status → TellsDamage spelling first_fault old.seen.held old new ⊎ (HasNoState spelling old.seen.held × ShowsSomeDamage new)
  pub whole : IsTrue tells → IsTrue tells_output → status ≡ done_status → HasSoundBlocks spelling old.seen.held ⊎ SaidAllNumbers old new
  pub reading : ReadingEnds spelling first_fault tells tells_output status old new
