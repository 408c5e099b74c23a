-- What a run says that answers no line, by what its words ask for.
use Rattle.std.specs.Prelude.{◌≡◌, ◌⊎◌, ◌++◌, ◌∷◌, [], ℕ, Bool, List, IsTrue, codes}
use Rattle.clap.specs.Walk.{Text}
use Rattle.disk_trait.specs.World.{World}
use Rattle.filter_api.specs.Spellings.{Spelling}
use Rattle.filter_api.specs.declared.settings.Field.{Field}
use Rattle.line_model.specs.Replies.{Memory, text_of}
use Rattle.lines_in.specs.Causes.{SayFailed}
use Rattle.lines_in.specs.Unserved.{Unserved}
use Rattle.lines_in.specs.Statuses.{done_status, wrong_words_status, output_status, memory_status, store_status}
use Rattle.map_model.specs.SortedMap.{Bytes}
use Rattle.outside.specs.Streams.{SayMoves}
use Rattle.program_words.specs.Asked.{AreRefusedWords, HasBadNumber, IsHelp}
use Rattle.program_words.specs.declared.asked.Asked.{Asked}
use Rattle.program_words.specs.declared.asked.Asked.TheVariants as asked
use Rattle.program_words.specs.declared.load.Load.{Load}
use Rattle.program_words.specs.declared.new_store.NewStore.{NewStore}
use Rattle.surf_run.specs.Formats.{Formatted, WritesInFront, bad_settings_text}
use Rattle.surf_run.specs.Resetting.{AreInRange}
use Rattle.surf_run.specs.declared.new_numbers.NewNumbers.{NewNumbers}
use Rattle.surf_run.specs.declared.new_numbers.NewNumbers.TheVariants as new

-- the line that wrong words get
abbrev pub usage_text : Bytes
usage_text = codes "usage: surfstore PATH format|serve|load|settings|grow|check|fstbuild|fstserve" ++ 10 ∷ []

-- there was no memory to find out what the words ask for
abbrev pub IsMemoryText : ℕ → Bytes → Type 0
IsMemoryText status text = (status ≡ memory_status) × (text ≡ text_of Memory)

-- so it was, and nothing else was done than to say so
pub record EndsWithoutMemory (tells_output : Bool) (status : ℕ) (old new : World) : Type 0 where
  pub ends : (status ≡ memory_status) ⊎ ((status ≡ output_status) × SayFailed old new)
  pub moves : SayMoves old new
  pub said : IsTrue tells_output → Unserved IsMemoryText status old new

abbrev pub IsUsageText : ℕ → Bytes → Type 0
IsUsageText status text = ((status ≡ wrong_words_status) × (text ≡ usage_text)) ⊎ IsMemoryText status text

abbrev pub IsBadSettingsText : Field → ℕ → Bytes → Type 0
IsBadSettingsText field status text = ((status ≡ store_status) × (text ≡ bad_settings_text field)) ⊎ IsMemoryText status text

-- help, or the version: a text of clap's
abbrev pub IsHelpText : ℕ → Bytes → Type 0
IsHelpText status text = (status ≡ done_status) ⊎ IsMemoryText status text

-- The store was made or refused, with nothing taken and nothing written after the first log area's first gate; or there was no
-- memory to find out which one is wanted.
abbrev pub FormatEnds : Spelling → NewStore → ℕ → World → World → Type 0
FormatEnds spelling store status old new =
    (Formatted spelling store.settings store.pages status old new × (new.beside.to_take ≡ old.beside.to_take) × WritesInFront old new)
    ⊎ Unserved IsMemoryText status old new

-- words that clap refuses or answers, or of whose numbers one is out of range
abbrev pub AskNothing : List Text → Type 0
AskNothing words = AreRefusedWords words ⊎ IsHelp words ⊎ ((field : Field) × HasBadNumber words field)

-- ---- case by case

-- What holds in each case of what words ask for, and where there was no memory to find that out.
pub record Cases : Type 1 where
  pub serve : Type 0
  pub load : Load → Type 0
  pub reset : NewNumbers → Type 0
  pub check : Type 0
  pub tables : Type 0
  pub dump : Type 0
  pub build_map : Type 0
  pub serve_map : Type 0
  pub format : NewStore → Type 0
  pub bad_settings : Field → Type 0
  pub help : Type 0
  pub refused : Type 0
  pub memory : Type 0

-- what holds in this case
abbrev pub In : Asked → Cases → Type 0
In asked.Serve cases = cases.serve
In (asked.Load load) cases = cases.load load
In (asked.Settings settings) cases = cases.reset (new.Settings settings)
In (asked.Grow pages) cases = cases.reset (new.Pages pages)
In asked.Check cases = cases.check
In asked.Tables cases = cases.tables
In asked.Dump cases = cases.dump
In asked.BuildMap cases = cases.build_map
In asked.ServeMap cases = cases.serve_map
In (asked.Format store) cases = cases.format store
In (asked.BadSettings field) cases = cases.bad_settings field
In (asked.Help text) cases = cases.help
In asked.Refused cases = cases.refused
In asked.Memory cases = cases.memory

-- the same in each case
abbrev pub always : Type 0 → Cases
always Holds = record {
  serve = Holds;
  load = λ _. Holds;
  reset = λ _. Holds;
  check = Holds;
  tables = Holds;
  dump = Holds;
  build_map = Holds;
  serve_map = Holds;
  format = λ _. Holds;
  bad_settings = λ _. Holds;
  help = Holds;
  refused = Holds;
  memory = Holds;
}

-- nothing is said of any case
abbrev pub nothing : Cases
nothing = always (Unit {0})

-- no case is so
abbrev pub never : Cases
never = always ⊥

-- ---- what is so where this was asked for, or there was no memory

abbrev pub IfServe : Asked → Type 0 → Type 0
IfServe asked Holds = In asked (record nothing { serve = Holds; memory = Holds })

abbrev pub IfRefused : Asked → Type 0 → Type 0
IfRefused asked Holds = In asked (record nothing { refused = Holds; memory = Holds })

abbrev pub IfUnserved : Asked → Type 0 → Type 0
IfUnserved asked Holds = In asked (record nothing { bad_settings = λ _. Holds; help = Holds; refused = Holds; memory = Holds })

abbrev pub IfHelp : Asked → Type 0 → Type 0
IfHelp asked Holds = In asked (record nothing { help = Holds; memory = Holds })

abbrev pub IfFormat : Asked → (NewStore → Type 0) → Type 0 → Type 0
IfFormat asked Holds Starved = In asked (record nothing { format = Holds; memory = Starved })

abbrev pub IfBadSettings : Asked → (Field → Type 0) → Type 0 → Type 0
IfBadSettings asked Holds Starved = In asked (record nothing { bad_settings = Holds; memory = Starved })

abbrev pub IfLoad : Asked → (Load → Type 0) → Type 0 → Type 0
IfLoad asked Holds Starved = In asked (record nothing { load = Holds; memory = Starved })

-- where the store was to be opened
abbrev pub IfOpens : Asked → Type 0 → Type 0
IfOpens asked Holds = In asked (record nothing { serve = Holds; load = λ _. Holds; reset = λ _. Holds; memory = Holds })

-- where these numbers are settings
abbrev pub IfSettings : NewNumbers → Type 0 → Type 0
IfSettings (new.Settings settings) Holds = Holds
IfSettings (new.Pages pages) Holds = Unit {0}

-- where it was to be opened with numbers that are in range for each store
abbrev pub IfOpensWithoutGrowing : Asked → Type 0 → Type 0
IfOpensWithoutGrowing asked Holds = In asked (record nothing { serve = Holds; load = λ _. Holds; reset = λ numbers. IfSettings numbers Holds; memory = Holds })

-- where it was to get new numbers
abbrev pub IfReset : Asked → (NewNumbers → Type 0) → Type 0 → Type 0
IfReset asked Holds Starved = In asked (record nothing { reset = Holds; memory = Starved })

-- where it was to be checked
abbrev pub IfCheck : Asked → Type 0 → Type 0
IfCheck asked Holds = In asked (record nothing { check = Holds; memory = Holds })

-- where its tables were to be said
abbrev pub IfTables : Asked → Type 0 → Type 0
IfTables asked Holds = In asked (record nothing { tables = Holds; memory = Holds })

-- where its pairs were to be said
abbrev pub IfDump : Asked → Type 0 → Type 0
IfDump asked Holds = In asked (record nothing { dump = Holds; memory = Holds })

-- where a static map was to be built, or to be served
abbrev pub IfBuildMap : Asked → Type 0 → Type 0
IfBuildMap asked Holds = In asked (record nothing { build_map = Holds; memory = Holds })

abbrev pub IfServeMap : Asked → Type 0 → Type 0
IfServeMap asked Holds = In asked (record nothing { serve_map = Holds; memory = Holds })

-- ---- this was asked for, and nothing else

abbrev pub IsBuildMapAsk : Asked → Type 0
IsBuildMapAsk asked = In asked (record never { build_map = Unit {0} })

abbrev pub IsServeMapAsk : Asked → Type 0
IsServeMapAsk asked = In asked (record never { serve_map = Unit {0} })

abbrev pub IsLoadAsk : Asked → Type 0
IsLoadAsk asked = In asked (record never { load = λ _. Unit {0} })

abbrev pub IsResetAsk : Asked → Type 0
IsResetAsk asked = In asked (record never { reset = λ _. Unit {0} })

abbrev pub IsCheckAsk : Asked → Type 0
IsCheckAsk asked = In asked (record never { check = Unit {0} })

abbrev pub IsRefusedAsk : Asked → Type 0
IsRefusedAsk asked = In asked (record never { refused = Unit {0} })

-- ---- what asking promises

-- settings that are asked for are in range
abbrev pub HasSettingsInRange : Asked → Type 0
HasSettingsInRange asked = IfReset asked AreInRange (Unit {0})
