-- What a check of the whole store says, by its status, and that it changes nothing.
use Rattle.std.specs.Prelude.{◌≡◌, ◌≢◌, ◌⊎◌, ◌-◌, ◌^◌, ◌++◌, ℕ, Bool, List, [], ◌∷◌, length, min, flat_map, codes, decimal, IsTrue}
use Rattle.std.specs.List.{sum_by}
use Rattle.byte_fields.specs.Faults.{Fault}
use Rattle.disk_trait.specs.World.{Image, Passes, Rose, Same, World}
use Rattle.filter_api.specs.Spellings.{Spelling}
use Rattle.image_model.specs.Findings.{AreFindings, BrokenRule, Finding, OtherSum, ShowsOnlyEntries, What, WrongCount, WrongKeys, WrongLeaf}
use Rattle.image_model.specs.Stands.{IsStateOf}
use Rattle.line_model.specs.Replies.{part_word, sum_word, text_of}
use Rattle.line_model.specs.Replies as replies
use Rattle.lines_in.specs.Causes.{NoFall, SayFailed, SomeFailed}
use Rattle.lines_in.specs.Statuses.{device_status, done_status, findings_status, memory_status, output_status, store_status}
use Rattle.lines_in.specs.Unserved.{LastLine}
use Rattle.manifest_model.specs.Slots.{IsNoStore}
use Rattle.map_model.specs.SortedMap.{Bytes}
use Rattle.state_model.specs.State.{State}
use Rattle.state_model.specs.View.{state_map}
use Rattle.store_check.specs.Checks.{AreLeft, IsCheckOf}
use Rattle.store_check.specs.Summaries.{entries_in}
use Rattle.store_check.specs.declared.check.Check.{Check}
use Rattle.store_check.specs.declared.error.CheckError.{CheckError}
use Rattle.store_check.specs.declared.error.CheckError.TheVariants as error
use Rattle.surf_run.specs.Open.{IsFreeText, no_store_text}
use Rattle.table_file.specs.Faults.{filter_fault_of}
use Rattle.table_model.specs.Damage.{IsOfBytes}

-- ---- the lines

abbrev pub what_words : What → Bytes
what_words (OtherSum kept seen) = codes " sum " ++ (sum_word kept ++ 32 ∷ sum_word seen)
what_words (BrokenRule rule) = codes " rule " ++ decimal rule
what_words WrongKeys = codes " keys"
what_words WrongCount = codes " count"
what_words (WrongLeaf number) = codes " leaf " ++ decimal number

abbrev pub finding_text : Finding → Bytes
finding_text f = codes "finding " ++ (part_word f.part ++ 32 ∷ (decimal f.at ++ (what_words f.what ++ 10 ∷ [])))

abbrev pub findings_text : List Finding → Bytes
findings_text findings = flat_map finding_text findings

-- the number has 64 bits
abbrev pub counted : List Finding → ℕ
counted findings = min (length findings) (2 ^ 64 - 1)

abbrev pub found_text : ℕ → Bytes
found_text many = codes "findings " ++ (decimal many ++ 10 ∷ [])

-- of a given number of tables, entries, pairs and records of the log
abbrev pub clean_text : ℕ → ℕ → ℕ → ℕ → Bytes
clean_text tables entries live log =
    codes "clean tables " ++ (decimal tables ++ (codes " entries " ++ (decimal entries ++ (codes " live " ++ (decimal live ++ (codes " log " ++ (decimal log ++ 10 ∷ [])))))))

abbrev pub clean_text_of : State → Bytes
clean_text_of s = clean_text (length s.tables) (sum_by entries_in s.tables) (length (state_map s)) (length s.log)

-- of what ends it before
abbrev pub cut_off_text : CheckError → Bytes
cut_off_text error.Memory = text_of replies.Memory
cut_off_text (error.Device cause) = text_of replies.Device
cut_off_text error.NotAStore = no_store_text

abbrev pub cut_off_status : CheckError → ℕ
cut_off_status error.Memory = memory_status
cut_off_status (error.Device cause) = device_status
cut_off_status error.NotAStore = store_status

-- ---- what is said, by its status

abbrev pub AreFound : Spelling → (Bytes → Fault) → Image → List Finding → Type 0
AreFound spelling first_fault image findings = AreFindings spelling (filter_fault_of first_fault) image findings

-- What the store of the image's state has; all findings of the image, in their order, and how many they are; the first of them, and
-- then that the device failed or that there was no memory; this alone, where the slots were not read; or that no store is there.
abbrev pub IsCheckText : Spelling → (Bytes → Fault) → Image → ℕ → Bytes → Type 0
IsCheckText spelling first_fault image status text =
    ((status ≡ done_status) × (s : State) × IsStateOf spelling s image × (text ≡ clean_text_of s))
    ⊎ ((status ≡ findings_status) × (findings : List Finding) × AreFound spelling first_fault image findings × (findings ≢ []) × (text ≡ findings_text findings ++ found_text (counted findings)))
    ⊎ ((given : List Finding) × (later : List Finding) × (last : Bytes) × AreFound spelling first_fault image (given ++ later) × IsFreeText status last × (text ≡ findings_text given ++ last))
    ⊎ IsFreeText status text
    ⊎ ((status ≡ store_status) × IsNoStore image × (text ≡ no_store_text))

-- ---- what it leaves

-- The device holds what it held, and at each moment a crash leaves what it might have left at the start; no write and no sync
-- failed, since none was made; nothing is taken, and no count of faults falls.
pub record ChangesNothing (old new : World) : Type 0 where
  pub held : new.seen.held ≡ old.seen.held
  pub time : Passes Same old new
  pub writes : new.seen.write_faults ≡ old.seen.write_faults
  pub input : new.beside.to_take ≡ old.beside.to_take
  pub counts : NoFall old new

-- ---- the statuses

abbrev pub IsChecking : ℕ → Type 0
IsChecking status =
    (status ≡ done_status) ⊎ (status ≡ device_status) ⊎ (status ≡ output_status) ⊎ (status ≡ memory_status) ⊎ (status ≡ store_status) ⊎ (status ≡ findings_status)

-- where no call fails
abbrev pub IsCheckEnd : ℕ → Type 0
IsCheckEnd status = (status ≡ done_status) ⊎ (status ≡ memory_status) ⊎ (status ≡ store_status) ⊎ (status ≡ findings_status)

-- the device failed, the output, or there was no memory
abbrev pub IsCutOff : ℕ → Type 0
IsCutOff status = (status ≡ device_status) ⊎ (status ≡ output_status) ⊎ (status ≡ memory_status)

abbrev pub HasState : Spelling → Image → Type 0
HasState spelling image = (s : State) × IsStateOf spelling s image

-- something is wrong with the image
abbrev pub HasFindings : Spelling → (Bytes → Fault) → Image → Type 0
HasFindings spelling first_fault image = (findings : List Finding) × AreFound spelling first_fault image findings × (findings ≢ [])

-- It holds bytes; and unless something is wrong with it, its log and its tables have entries alone. An image with a deleted range
-- represents no state yet.
pub record HoldsEntries (spelling : Spelling) (first_fault : Bytes → Fault) (image : Image) : Type 0 where
  pub bytes : IsOfBytes image
  pub entries : AreFound spelling first_fault image [] → ShowsOnlyEntries image

-- ---- the whole

-- How a check ends. Over an observable device that holds bytes and no deleted range its lines are what `IsCheckText` says; 0 comes exactly where an image
-- represents a state, 12 exactly where something is wrong and 8 exactly where no store is there, unless the check is cut off. Whatever
-- ranges there are, 0 comes only where nothing is wrong, and a state, something that is wrong and no store are told as such. The
-- device failed only where the count of failed reads rose, and the output where its own did. Where no call fails a check ends so or
-- for lack of memory.
pub record CheckEnds (spelling : Spelling) (first_fault : Bytes → Fault) (tells tells_output : Bool) (status : ℕ) (old new : World) : Type 0 where
  pub checked : IsTrue tells → IsTrue tells_output → HoldsEntries spelling first_fault old.seen.held → LastLine (IsCheckText spelling first_fault old.seen.held) status old new
  pub clean : IsTrue tells → HoldsEntries spelling first_fault old.seen.held → status ≡ done_status → HasState spelling old.seen.held
  pub none_found : IsTrue tells → status ≡ done_status → AreFound spelling first_fault old.seen.held []
  pub told_clean : IsTrue tells → IsOfBytes old.seen.held → HasState spelling old.seen.held → (status ≡ done_status) ⊎ IsCutOff status
  pub wrong : IsTrue tells → HoldsEntries spelling first_fault old.seen.held → status ≡ findings_status → HasFindings spelling first_fault old.seen.held
  pub told_wrong : IsTrue tells → IsOfBytes old.seen.held → HasFindings spelling first_fault old.seen.held → (status ≡ findings_status) ⊎ IsCutOff status
  pub no_store : IsTrue tells → HoldsEntries spelling first_fault old.seen.held → status ≡ store_status → IsNoStore old.seen.held
  pub told_no_store : IsTrue tells → IsOfBytes old.seen.held → IsNoStore old.seen.held → (status ≡ store_status) ⊎ IsCutOff status
  pub reads : status ≡ device_status → Rose old.seen.read_faults new.seen.read_faults
  pub saying : status ≡ output_status → SayFailed old new
  pub complete : (SomeFailed old new → ⊥) → IsCheckEnd status
  pub statuses : IsChecking status
  pub changes : ChangesNothing old new

-- ---- on the way

-- A check that gave some findings, since a world in which it began.
pub record CheckedSoFar (spelling : Spelling) (first_fault : Bytes → Fault) (tells tells_output : Bool) (check : Check) (given : List Finding) (old now : World) : Type 0 where
  pub of : IsTrue tells → IsCheckOf old.seen.held check
  pub left : (later : List Finding) → IsTrue tells → AreLeft spelling first_fault old.seen.held check later → AreFound spelling first_fault old.seen.held (given ++ later)
  pub said : IsTrue tells_output → now.beside.said ≡ old.beside.said ++ findings_text given
  pub changes : ChangesNothing old now
