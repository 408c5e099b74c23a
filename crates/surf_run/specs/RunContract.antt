-- What a run promises, clause by clause.
use Rattle.std.specs.Prelude.{◌≡◌, ◌⊎◌, ◌*◌, ℕ, Bool, true, List, IsTrue, None}
use Rattle.block_model.specs.Pages.{page_bytes}
use Rattle.byte_fields.specs.Faults.{Fault}
use Rattle.byte_fields.specs.declared.parts.Damage.{Damage}
use Rattle.clap.specs.Walk.{Text}
use Rattle.disk_trait.specs.World.{Now, World}
use Rattle.filter_api.specs.declared.settings.Field.{Field}
use Rattle.image_model.specs.Opening.{FirstDamage}
use Rattle.image_model.specs.Stands.{IsStateOf}
use Rattle.lines_in.specs.Causes.{EndsAt, IsServing, NoFall, StatusCause, WritesWithin, Completed, SomeFailed}
use Rattle.lines_in.specs.Unserved.{Unserved}
use Rattle.lines_in.specs.Statuses.{done_status, wrong_words_status, device_status, damaged_status, output_status, memory_status, store_status, last_epoch_status, findings_status}
use Rattle.manifest.specs.NewManifest.{has_open}
use Rattle.manifest_model.specs.Slots.{IsNoStore, IsVersionOf}
use Rattle.manifest_model.specs.Version.{Version}
use Rattle.map_model.specs.SortedMap.{Bytes}
use Rattle.map_run_model.specs.Building.{BuildContract}
use Rattle.map_run_model.specs.LastLines.{no_map_status}
use Rattle.map_run_model.specs.Serving.{ServeContract}
use Rattle.outside.specs.Streams.{SayMoves}
use Rattle.program_words.specs.Asked.{AreRefusedWords, HasBadNumber, IsCheck, IsDump, IsFormat, IsGrow, IsHelp, IsLoadInRange, IsMapBuild, IsMapServe, IsServe, IsTables, OpensStore, OpensWithoutGrowing}
use Rattle.program_words.specs.NewStores.{IsStoreOf, first_bad_word}
use Rattle.program_words.specs.declared.load.Load.{Load}
use Rattle.program_words.specs.declared.new_store.NewStore.{NewStore}
use Rattle.program_words.specs.declared.new_store.Wanted.{Wanted}
use Rattle.state_model.specs.State.{State}
use Rattle.state_model.specs.View.{state_map}
use Rattle.surf_run.specs.Causes.{RunMeetsDamage}
use Rattle.surf_run.specs.Checks.{CheckEnds}
use Rattle.surf_run.specs.ServedOrNot.{HasNoState, NoLineAnswered, OpenedThenServed, ServedOrNot, TellsDamage}
use Rattle.surf_run.specs.Kind.{Kind}
use Rattle.surf_run.specs.Loads.{IsLoading, LoadEnds, Loads}
use Rattle.surf_run.specs.MapCrash.{OneMapLasts}
use Rattle.surf_run.specs.Open.{IsOpeningText, OpensNothing}
use Rattle.surf_run.specs.Readings.{DumpEnds, TablesEnds}
use Rattle.surf_run.specs.Resetting.{AskFor, IsInLastEpoch, IsResetEnd, IsResetting, OpenedThenReset, ResetEnds, TellsWhich}
use Rattle.surf_run.specs.Run.{AskNothing, EndsWithoutMemory, FormatEnds, IsBadSettingsText, IsHelpText, IsUsageText}
use Rattle.table_file.specs.Faults.{filter_fault_of}
use Rattle.surf_run.specs.declared.new_numbers.NewNumbers.{NewNumbers}
use Rattle.surf_run.specs.declared.new_numbers.NewNumbers.TheVariants as new_numbers

-- A run by these words over a device and streams, with filters of this kind, of which bytes that are no filter break this rule
-- first. Whether device, input and output tell their bytes is `tells`, `tells_input` and `tells_output`, and `world` is what
-- they are in.
pub record RunContract {X : Type 0} (world : X → World) (tells tells_input tells_output : Bool) (kind : Kind) (first_fault : Bytes → Fault) (words : List Text) (status : ℕ) (old new : X) : Type 0 where
  -- Of `serve`, where each image that a crash might have left at the start stands for this state: the lines that were taken got
  -- the replies of its map, what a crash may leave at each moment has every line that was acknowledged by then, and no more
  -- blocks were read than the opening, the gets, the closed seeks and the merge slices may read, where no other line reads.
  pub outcome :
      (s : State) → IsTrue tells → IsTrue tells_input → IsTrue tells_output → Now (IsStateOf kind.spelling s) (world old) → IsServe words
      → ServedOrNot kind status s (world old) (world new)
  -- Of the map alone: at each moment each image that a crash may leave has a map that these replies reach after some first
  -- lines with all that was acknowledged by then, or after one more, which is not said to be refused.
  pub one_map_crash :
      (s : State) → IsTrue tells → IsTrue tells_input → IsTrue tells_output → Now (IsStateOf kind.spelling s) (world old) → IsServe words
      → OneMapLasts kind.spelling (state_map s) (world old) (world new) ⊎ NoLineAnswered status s (world old) (world new)
  -- Where what the device reads as stands for this state: the same from the opening on.
  pub answers :
      (s : State) → IsTrue tells → IsTrue tells_input → IsTrue tells_output → IsStateOf kind.spelling s (world old).seen.held → IsServe words
      → ((opened : X) × OpenedThenServed kind status s (world old) (world opened) (world new)) ⊎ NoLineAnswered status s (world old) (world new)
  -- Where no call fails each line is answered, to the end of the input, to `quit` or to 2^40 bytes.
  pub complete :
      (s : State) → IsTrue tells → IsTrue tells_input → IsTrue tells_output → IsStateOf kind.spelling s (world old).seen.held
      → (SomeFailed (world old) (world new) → ⊥) → IsServe words → Completed status (world old) (world new)
  -- For lack of memory, and where no store is, no byte of the input was taken.
  pub early : IsServe words → (status ≡ memory_status) ⊎ (status ≡ store_status) → (world new).beside.to_take ≡ (world old).beside.to_take
  -- A new store is made or refused, and says so; a number out of range is named, and nothing is touched.
  pub formatted :
      (wanted : Wanted) (store : NewStore) → IsTrue tells → IsTrue tells_output → IsFormat words wanted → first_bad_word wanted ≡ None → IsStoreOf wanted store
      → FormatEnds kind.spelling store status (world old) (world new)
  -- Where no call fails it is made, or a store is there, or there was no memory.
  pub format_complete :
      (wanted : Wanted) (store : NewStore) → IsTrue tells → IsTrue tells_output → IsFormat words wanted → first_bad_word wanted ≡ None → IsStoreOf wanted store
      → (SomeFailed (world old) (world new) → ⊥) → (status ≡ done_status) ⊎ (status ≡ memory_status) ⊎ ((status ≡ store_status) × (has_open (world old).seen.held ≡ true))
  pub bad_settings : (field : Field) → IsTrue tells_output → HasBadNumber words field → Unserved (IsBadSettingsText field) status (world old) (world new)
  -- Of `load`, where each image that a crash might have left at the start stands for this state: at status 0 all steps were made, and
  -- the line tells the map of those that were not refused; what a crash may leave at each moment is the map after some first steps.
  pub loaded :
      (s : State) (load : Load) → IsTrue tells → IsTrue tells_output → Now (IsStateOf kind.spelling s) (world old) → IsLoadInRange words load
      → LoadEnds kind status s load.seed load.count (world old) (world new) ⊎ NoLineAnswered status s (world old) (world new)
  -- Where what the device reads as stands for this state: the same from the opening on.
  pub loads :
      (s : State) (load : Load) → IsTrue tells → IsTrue tells_output → IsStateOf kind.spelling s (world old).seen.held → IsLoadInRange words load
      → ((opened : X) × Loads kind status s load.seed load.count (world old) (world opened) (world new)) ⊎ NoLineAnswered status s (world old) (world new)
  -- Where no call fails all steps are made, but for lack of memory.
  pub load_complete :
      (s : State) (load : Load) → IsTrue tells → IsTrue tells_output → IsStateOf kind.spelling s (world old).seen.held
      → (SomeFailed (world old) (world new) → ⊥) → IsLoadInRange words load → (status ≡ done_status) ⊎ (status ≡ memory_status)
  -- And whatever is there, no other comes than these.
  pub load_statuses : (load : Load) → IsLoadInRange words load → IsLoading status ⊎ (status ≡ store_status)
  -- Of `settings` and `grow`, where each image that a crash might have left at the start stands for this state: at status 0 each one
  -- stands for the state with the new numbers, 10 comes at its last epoch, and what a crash may leave at each moment is the state
  -- before or that one.
  pub reset :
      (s : State) (numbers : NewNumbers) → IsTrue tells → IsTrue tells_output → Now (IsStateOf kind.spelling s) (world old) → AskFor words numbers
      → ResetEnds kind numbers status s (world old) (world new) ⊎ NoLineAnswered status s (world old) (world new)
  -- Where what the device reads as stands for this state: the same from the opening on.
  pub resets :
      (s : State) (numbers : NewNumbers) → IsTrue tells → IsTrue tells_output → IsStateOf kind.spelling s (world old).seen.held → AskFor words numbers
      → ((opened : X) × OpenedThenReset kind numbers status s (world old) (world opened) (world new)) ⊎ NoLineAnswered status s (world old) (world new)
  -- Where no call fails the numbers are set or refused, but for lack of memory.
  pub reset_complete :
      (s : State) (numbers : NewNumbers) → IsTrue tells → IsTrue tells_output → IsStateOf kind.spelling s (world old).seen.held
      → (SomeFailed (world old) (world new) → ⊥) → AskFor words numbers → IsResetEnd status
  -- And whatever is there, no other comes than these.
  pub reset_statuses : (numbers : NewNumbers) → AskFor words numbers → IsResetting status
  -- Status 5 comes of them only where opening finds damage, and says the first.
  pub reset_at_damage :
      (numbers : NewNumbers) → IsTrue tells → IsTrue tells_output → AskFor words numbers → status ≡ damaged_status
      → TellsDamage kind.spelling first_fault (world old).seen.held (world old) (world new)
  -- Status 10 comes of nothing else, and only of a store in its last epoch.
  pub only_at_new_numbers : status ≡ last_epoch_status → (numbers : NewNumbers) × AskFor words numbers
  pub only_at_last_epoch : IsTrue tells → status ≡ last_epoch_status → IsInLastEpoch (world old).seen.held
  -- Help is said with 0, and wrong words get the usage line with 2; nothing is touched.
  pub helped : IsTrue tells_output → IsHelp words → Unserved IsHelpText status (world old) (world new)
  pub refused : IsTrue tells_output → AreRefusedWords words → Unserved IsUsageText status (world old) (world new)
  -- Statuses 3, 4 and 6 come only where the count of such faults rose in this call.
  pub causes : StatusCause status (world old) (world new)
  pub counts : NoFall (world old) (world new)
  -- Status 2 comes exactly where clap refuses the words, but for memory and a last line that cannot be said.
  pub only_at_wrong_words : status ≡ wrong_words_status → AreRefusedWords words
  pub told_of_wrong_words : AreRefusedWords words → EndsAt wrong_words_status status (world old) (world new)
  -- Numbers out of range end with 8 and help with 0, whether or not the output tells its bytes.
  pub told_of_bad_settings : (field : Field) → HasBadNumber words field → EndsAt store_status status (world old) (world new)
  pub told_of_help : IsHelp words → EndsAt done_status status (world old) (world new)
  -- Words that are refused or answered, and numbers out of range: nothing is called but the output.
  pub untouched : AskNothing words → SayMoves (world old) (world new)
  -- Status 5 comes only where opening finds damage, and says the first, or where no state is there and a block that was read shows
  -- the damage that was said, or that a merge slice met, of which nothing is said; or of `fstserve`.
  pub only_at_damage :
      IsTrue tells → IsTrue tells_input → IsTrue tells_output → status ≡ damaged_status
      → TellsDamage kind.spelling first_fault (world old).seen.held (world old) (world new) ⊎ (HasNoState kind.spelling (world old).seen.held × RunMeetsDamage ((load : Load) × IsLoadInRange words load) (world old) (world new)) ⊎ IsMapServe words
  -- Of all but `format`, where no store is there or opening finds damage, no line is served, no step made and no number set: nothing is
  -- taken or written, and the one last line says so, or `device` or `memory`.
  pub unopened :
      IsTrue tells → IsTrue tells_output → OpensNothing kind.spelling first_fault (world old).seen.held → OpensStore words
      → Unserved (IsOpeningText kind.spelling first_fault (world old).seen.held) status (world old) (world new)
  -- Where a version opens, whether or not a state is there, nothing changes beyond its pages: neither what the device reads as,
  -- nor what a crash may leave at any moment.
  pub within : (v : Version) → IsTrue tells → IsVersionOf v (world old).seen.held → OpensStore words → WritesWithin (page_bytes * v.pages) (world old) (world new)
  -- Where opening finds damage, the status says so, but for the device, memory and a last line that cannot be said.
  pub told_of_damage :
      (d : Damage) → IsTrue tells → FirstDamage kind.spelling (filter_fault_of first_fault) (world old).seen.held d → OpensStore words
      → (status ≡ damaged_status) ⊎ (status ≡ device_status) ⊎ (status ≡ output_status) ⊎ (status ≡ memory_status)
  -- Of them, status 8 comes exactly where both slot gates are closed, but for memory, the device and the last line. Of `grow` it comes
  -- too where the pages are fewer than the store has, or too many, and the line says which.
  pub only_at_no_store : IsTrue tells → status ≡ store_status → OpensWithoutGrowing words → IsNoStore (world old).seen.held
  pub only_at_bad_pages : (pages : ℕ) → IsTrue tells → status ≡ store_status → IsGrow words pages → TellsWhich (IsTrue tells_output) (new_numbers.Pages pages) (world old).seen.held (world old) (world new)
  pub told_of_no_store : IsTrue tells → IsNoStore (world old).seen.held → OpensStore words → (status ≡ store_status) ⊎ (status ≡ device_status) ⊎ (status ≡ output_status) ⊎ (status ≡ memory_status)
  -- Of `check`: all that is wrong with what the device holds, in order, and how many things are, or what the store has; and it
  -- changes nothing.
  pub check : IsCheck words → CheckEnds kind.spelling first_fault tells tells_output status (world old) (world new)
  pub only_at_check : status ≡ findings_status → IsCheck words
  -- Of `tables`: what each table has, and what the store has; and it changes nothing.
  pub tables : IsTables words → TablesEnds kind.spelling first_fault tells tells_output status (world old) (world new)
  -- Of `dump`: the pairs of the map, as lines that put them; and it changes nothing.
  pub dump : IsDump words → DumpEnds kind.spelling first_fault tells tells_output status (world old) (world new)
  -- Of `fstbuild` and `fstserve`: a static map is built of the lines of the input, or they are answered by one; or there was no memory to
  -- find out what the words ask for. Status 11 comes only of lines that are no map.
  pub map_built : IsMapBuild words → BuildContract world tells tells_input tells_output status old new ⊎ EndsWithoutMemory tells_output status (world old) (world new)
  pub map_served : IsMapServe words → ServeContract world tells tells_input tells_output status old new ⊎ EndsWithoutMemory tells_output status (world old) (world new)
  pub only_at_no_map : status ≡ no_map_status → IsMapBuild words
  pub statuses : IsServing status ⊎ (status ≡ wrong_words_status) ⊎ (status ≡ damaged_status) ⊎ (status ≡ memory_status) ⊎ (status ≡ store_status) ⊎ (status ≡ last_epoch_status) ⊎ (status ≡ findings_status) ⊎ (status ≡ no_map_status)
