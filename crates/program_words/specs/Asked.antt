-- What words ask for: a function of what clap's specification says of them.
use Rattle.std.specs.Prelude.{◌≡◌, ◌≢◌, ◌⊎◌, ℕ, Bool, true, false, if◌then◌else◌, List, [], Option, Some, None, codes, unwrap_or}
use Rattle.std.specs.List.{list_any}
use Rattle.std.specs.Option.{option_map_or}
use Rattle.std.specs.Str.Parse.{digits_value, without_leading_plus}
use Rattle.clap.specs.Faults.{fault_of}
use Rattle.clap.specs.Simple.{subcommand_of}
use Rattle.clap.specs.ValueTests.{is_unsigned_in}
use Rattle.clap.specs.Walk.{Row, Text, first_of, one_of}
use Rattle.clap.specs.declared.error.kind.ErrorKind.{ErrorKind}
use Rattle.clap.specs.declared.error.kind.ErrorKind.TheVariants.{DisplayHelp, DisplayVersion, OutOfMemory}
use Rattle.filter_api.specs.declared.settings.Field.{Field}
use Rattle.filter_api.specs.declared.settings.Field.TheVariants.{Count}
use Rattle.filter_api.specs.declared.settings.Settings.{Settings}
use Rattle.program_words.specs.CommandLine.{store_app}
use Rattle.program_words.specs.Loads.{is_load_count}
use Rattle.program_words.specs.NewStores.{IsStoreOf, first_bad_word}
use Rattle.program_words.specs.WantedSettings.{AreSettingsOf, first_bad_setting, variant_named}
use Rattle.program_words.specs.declared.asked.Asked.{Asked}
use Rattle.program_words.specs.declared.asked.Asked.TheVariants as asked
use Rattle.program_words.specs.declared.load.Load.{Load}
use Rattle.program_words.specs.declared.new_store.Wanted.{Wanted}
use Rattle.program_words.specs.declared.wanted_settings.WantedSettings.{WantedSettings}

-- the number that a text spells; clap takes no text that spells none below 2^64
abbrev pub number_in_text : Text → ℕ
number_in_text text = if is_unsigned_in 0 18446744073709551615 text then digits_value 10 (without_leading_plus text) else 0

-- what the words have of an option, or its default
abbrev pub option_number : Text → List Row → ℕ
option_number id rows = option_map_or number_in_text (one_of id rows) 0

abbrev pub text_at : Text → List Row → Text
text_at id rows = unwrap_or (first_of id rows) []

abbrev pub wanted_settings_of : List Row → WantedSettings
wanted_settings_of rows = record {
  variant = variant_named (text_at (codes "variant") rows);
  hash_bits = option_number (codes "hash-bits") rows;
  real_bits = option_number (codes "real-bits") rows;
  ratio = option_number (codes "ratio") rows;
}

abbrev pub wanted_of : List Row → Wanted
wanted_of rows = record { pages = option_number (codes "pages") rows; settings = wanted_settings_of rows }

abbrev pub load_of : List Row → Load
load_of rows = record { seed = option_number (codes "seed") rows; count = option_number (codes "count") rows }

-- clap takes the words, and this is their subcommand with its options
pub record IsSubcommand (words : List Text) (name : Text) (rows : List Row) : Type 0 where
  pub taken : fault_of store_app words ≡ []
  pub subcommand : subcommand_of store_app words ≡ Some (name, rows)

-- a request for help or the version, which clap answers in place of matches
abbrev pub is_request : ErrorKind → Bool
is_request DisplayHelp = true
is_request DisplayVersion = true
is_request kind = false

-- each subcommand with these options
abbrev pub IsFormat : List Text → Wanted → Type 0
IsFormat words wanted = (rows : List Row) × IsSubcommand words (codes "format") rows × (wanted_of rows ≡ wanted)

abbrev pub IsServe : List Text → Type 0
IsServe words = (rows : List Row) × IsSubcommand words (codes "serve") rows

abbrev pub IsLoad : List Text → Load → Type 0
IsLoad words load = (rows : List Row) × IsSubcommand words (codes "load") rows × (load_of rows ≡ load)

abbrev pub IsSettings : List Text → WantedSettings → Type 0
IsSettings words wanted = (rows : List Row) × IsSubcommand words (codes "settings") rows × (wanted_settings_of rows ≡ wanted)

abbrev pub IsGrow : List Text → ℕ → Type 0
IsGrow words pages = (rows : List Row) × IsSubcommand words (codes "grow") rows × (option_number (codes "pages") rows ≡ pages)

abbrev pub IsCheck : List Text → Type 0
IsCheck words = (rows : List Row) × IsSubcommand words (codes "check") rows

abbrev pub IsTables : List Text → Type 0
IsTables words = (rows : List Row) × IsSubcommand words (codes "tables") rows

abbrev pub IsDump : List Text → Type 0
IsDump words = (rows : List Row) × IsSubcommand words (codes "dump") rows

abbrev pub IsMapBuild : List Text → Type 0
IsMapBuild words = (rows : List Row) × IsSubcommand words (codes "fstbuild") rows

abbrev pub IsMapServe : List Text → Type 0
IsMapServe words = (rows : List Row) × IsSubcommand words (codes "fstserve") rows

-- a load that has not too many steps, and settings that are in range
abbrev pub IsLoadInRange : List Text → Load → Type 0
IsLoadInRange words load = IsLoad words load × (is_load_count load.count ≡ true)

abbrev pub IsSettingsInRange : List Text → Settings → Type 0
IsSettingsInRange words settings = (wanted : WantedSettings) × IsSettings words wanted × (first_bad_setting wanted ≡ None) × AreSettingsOf wanted settings

-- Words with which the store is opened that stands on the device. But for the pages of a `grow`, which are looked at then, their
-- numbers are in range.
abbrev pub OpensWithoutGrowing : List Text → Type 0
OpensWithoutGrowing words = IsServe words ⊎ ((load : Load) × IsLoadInRange words load) ⊎ ((settings : Settings) × IsSettingsInRange words settings)

abbrev pub OpensStore : List Text → Type 0
OpensStore words = OpensWithoutGrowing words ⊎ ((pages : ℕ) × IsGrow words pages)

-- words that are taken, of whose numbers this is the first out of range
abbrev pub HasBadNumber : List Text → Field → Type 0
HasBadNumber words field =
    ((wanted : Wanted) × IsFormat words wanted × (first_bad_word wanted ≡ Some field)) ⊎ ((load : Load) × IsLoad words load × (is_load_count load.count ≡ false) × (field ≡ Count))
    ⊎ ((wanted : WantedSettings) × IsSettings words wanted × (first_bad_setting wanted ≡ Some field))

-- Clap answers the words with a text; or it refuses them, and no text is among what it may answer. So of any words exactly one
-- is so: clap takes them, answers them or refuses them.
abbrev pub IsHelp : List Text → Type 0
IsHelp words = list_any is_request (fault_of store_app words) ≡ true

pub record AreRefusedWords (words : List Text) : Type 0 where
  pub fails : fault_of store_app words ≢ []
  pub no_text : list_any is_request (fault_of store_app words) ≡ false

-- what the words ask for is this, or there was no memory to find it out
abbrev pub WordsAsk : List Text → Asked → Type 0
WordsAsk words (asked.Format store) = (wanted : Wanted) × IsFormat words wanted × (first_bad_word wanted ≡ None) × IsStoreOf wanted store
WordsAsk words (asked.BadSettings field) = HasBadNumber words field
WordsAsk words asked.Serve = IsServe words
WordsAsk words (asked.Load load) = IsLoadInRange words load
WordsAsk words (asked.Settings settings) = IsSettingsInRange words settings
WordsAsk words (asked.Grow pages) = IsGrow words pages
WordsAsk words asked.Check = IsCheck words
WordsAsk words asked.Tables = IsTables words
WordsAsk words asked.Dump = IsDump words
WordsAsk words asked.BuildMap = IsMapBuild words
WordsAsk words asked.ServeMap = IsMapServe words
WordsAsk words (asked.Help text) = IsHelp words
WordsAsk words asked.Refused = AreRefusedWords words
WordsAsk words asked.Memory = Unit {0}

-- ---- on the way

-- a subcommand of the ten
abbrev pub IsKnown : Option (Text × List Row) → Type 0
IsKnown None = ⊥
IsKnown (Some found) =
    (found.0 ≡ codes "format") ⊎ (found.0 ≡ codes "serve") ⊎ (found.0 ≡ codes "load") ⊎ (found.0 ≡ codes "settings") ⊎ (found.0 ≡ codes "grow") ⊎ (found.0 ≡ codes "check") ⊎ (found.0 ≡ codes "tables") ⊎ (found.0 ≡ codes "dump") ⊎ (found.0 ≡ codes "fstbuild") ⊎ (found.0 ≡ codes "fstserve")

-- an answer without matches, by its kind; a text that was asked for may have found no memory
abbrev pub ComesOf : ErrorKind → Asked → Type 0
ComesOf kind (asked.Format store) = ⊥
ComesOf kind (asked.BadSettings field) = ⊥
ComesOf kind asked.Serve = ⊥
ComesOf kind (asked.Load load) = ⊥
ComesOf kind (asked.Settings settings) = ⊥
ComesOf kind (asked.Grow pages) = ⊥
ComesOf kind asked.Check = ⊥
ComesOf kind asked.Tables = ⊥
ComesOf kind asked.Dump = ⊥
ComesOf kind asked.BuildMap = ⊥
ComesOf kind asked.ServeMap = ⊥
ComesOf kind (asked.Help text) = is_request kind ≡ true
ComesOf kind asked.Refused = (is_request kind ≡ false) × (kind ≢ OutOfMemory)
ComesOf kind asked.Memory = (kind ≡ OutOfMemory) ⊎ (is_request kind ≡ true)
