-- Words ask for one thing alone.
use Rattle.std.proofs.Common.{◌≡◌, ◌⊎◌, ◌∙◌, inl, inr, refl, sym, ap, subst, ℕ, Bool, true, false, List, []}
use Rattle.std.specs.Prelude.{Option, Some, None, codes, unwrap_or, nat_lt, if◌then◌else◌}
use Rattle.std.specs.List.{list_any}
use Rattle.std.specs.Option.{option_map_or}
use Rattle.std.specs.Str.{bytes_eq}
use Rattle.std.proofs.lemmas.Bool.{ltb-false}
use Rattle.clap.specs.Faults.{fault_of}
use Rattle.clap.specs.Walk.{Row, Text}
use Rattle.filter_api.specs.Ranges.{InRange}
use Rattle.filter_api.specs.declared.settings.Field.{Field}
use Rattle.filter_api.specs.declared.settings.Field.TheVariants as field
use Rattle.filter_api.specs.declared.settings.Settings.{Settings}
use Rattle.key_base.specs.Limits.{max_hash_bits, max_ratio, max_real_bits}
use Rattle.program_words.specs.Asked.{AreRefusedWords, HasBadNumber, IsCheck, IsDump, IsFormat, IsGrow, IsHelp, IsLoad, IsLoadInRange, IsMapBuild, IsMapServe, IsServe, IsSettings, IsSettingsInRange, IsSubcommand, IsTables, OpensStore, OpensWithoutGrowing, is_request, load_of, option_number, wanted_of, wanted_settings_of}
use Rattle.program_words.specs.CommandLine.{store_app}
use Rattle.program_words.specs.Loads.{is_load_count}
use Rattle.program_words.specs.NewStores.{IsStoreOf, first_bad_word}
use Rattle.program_words.specs.WantedSettings.{AreSettingsOf, first_bad_number, first_bad_setting, named_hash_bits, named_real_bits, named_settings}
use Rattle.program_words.specs.declared.load.Load.{Load}
use Rattle.program_words.specs.declared.new_store.NewStore.{NewStore}
use Rattle.program_words.specs.declared.new_store.Wanted.{Wanted}
use Rattle.program_words.specs.declared.wanted_settings.Variant.{Variant}
use Rattle.program_words.specs.declared.wanted_settings.WantedSettings.{WantedSettings}

pub not_both_ways : (b : Bool) → b ≡ true → b ≡ false → ⊥
not_both_ways b holds fails = let never : false ≡ true = sym fails ∙ holds in cc

some_other : {X : Type 0} (x : X) → None ≡ Some x → ⊥
some_other x is = absurd cc

-- ---- words are taken with one subcommand

abbrev pub Taken : List Text → Text → Type 0
Taken words name = (rows : List Row) × IsSubcommand words name rows

-- and with no other
pub apart : (words : List Text) (x y : Text) → bytes_eq x x ≡ true → bytes_eq x y ≡ false → Taken words x → Taken words y → ⊥
apart words x y own other a b =
    let same : x ≡ y = ap (λ (o : Option (Text × List Row)). option_map_or (λ (p : Text × List Row). p.0) o x) (sym a.1.subcommand ∙ b.1.subcommand) in
    not_both_ways (bytes_eq x y) (ap (λ (z : Text). bytes_eq x z) (sym same) ∙ own) other

same_rows : (words : List Text) (x : Text) (rows others : List Row) → IsSubcommand words x rows → IsSubcommand words x others → rows ≡ others
same_rows words x rows others a b = ap (λ (o : Option (Text × List Row)). option_map_or (λ (p : Text × List Row). p.1) o []) (sym a.subcommand ∙ b.subcommand)

pub same_wanted : (words : List Text) (x y : Wanted) → IsFormat words x → IsFormat words y → x ≡ y
same_wanted words x y a b = sym a.2 ∙ ap wanted_of (same_rows words (codes "format") a.0 b.0 a.1 b.1) ∙ b.2

pub same_load : (words : List Text) (x y : Load) → IsLoad words x → IsLoad words y → x ≡ y
same_load words x y a b = sym a.2 ∙ ap load_of (same_rows words (codes "load") a.0 b.0 a.1 b.1) ∙ b.2

same_wanted_settings : (words : List Text) (x y : WantedSettings) → IsSettings words x → IsSettings words y → x ≡ y
same_wanted_settings words x y a b = sym a.2 ∙ ap wanted_settings_of (same_rows words (codes "settings") a.0 b.0 a.1 b.1) ∙ b.2

pub same_pages : (words : List Text) (x y : ℕ) → IsGrow words x → IsGrow words y → x ≡ y
same_pages words x y a b = sym a.2 ∙ ap (λ (rows : List Row). option_number (codes "pages") rows) (same_rows words (codes "grow") a.0 b.0 a.1 b.1) ∙ b.2

named_alike : (wanted : WantedSettings) (x y : Settings) → AreSettingsOf wanted x → AreSettingsOf wanted y → x ≡ y
named_alike wanted x y a b =
    let variant : a.0 ≡ b.0 = ap (λ (o : Option Variant). unwrap_or o a.0) (sym a.1 ∙ b.1) in
    a.2 ∙ ap (λ (v : Variant). named_settings v wanted) variant ∙ sym b.2

pub same_store : (wanted : Wanted) (x y : NewStore) → IsStoreOf wanted x → IsStoreOf wanted y → x ≡ y
same_store wanted x y a b =
    let pages : x.pages ≡ y.pages = a.pages ∙ sym b.pages in
    let settings : x.settings ≡ y.settings = named_alike wanted.settings x.settings y.settings a.settings b.settings in
    λ i. record { pages = pages i; settings = settings i }

pub same_settings : (words : List Text) (x y : Settings) → IsSettingsInRange words x → IsSettingsInRange words y → x ≡ y
same_settings words x y a b =
    named_alike b.0 x y (subst (λ (w : WantedSettings). AreSettingsOf w x) (same_wanted_settings words a.0 b.0 a.1 b.1) a.3) b.3

-- ---- what is in range is not out of it

pub format_not_bad : (words : List Text) (wanted : Wanted) (field : Field) → IsFormat words wanted → first_bad_word wanted ≡ None → HasBadNumber words field → ⊥
format_not_bad words wanted field is good bad = elim bad [
  | inl format ↦ some_other field (sym good ∙ ap first_bad_word (same_wanted words wanted format.0 is format.1) ∙ format.2)
  | inr more ↦ elim more [
    | inl load ↦ apart words (codes "format") (codes "load") refl refl (is.0, is.1) (load.1.0, load.1.1)
    | inr settings ↦ apart words (codes "format") (codes "settings") refl refl (is.0, is.1) (settings.1.0, settings.1.1)
  ]
]

pub load_not_bad : (words : List Text) (load : Load) (field : Field) → IsLoadInRange words load → HasBadNumber words field → ⊥
load_not_bad words load field is bad = elim bad [
  | inl format ↦ apart words (codes "load") (codes "format") refl refl (is.0.0, is.0.1) (format.1.0, format.1.1)
  | inr more ↦ elim more [
    | inl other ↦ not_both_ways (is_load_count other.0.count) (ap (λ (l : Load). is_load_count l.count) (sym (same_load words load other.0 is.0 other.1)) ∙ is.1) other.2
    | inr settings ↦ apart words (codes "load") (codes "settings") refl refl (is.0.0, is.0.1) (settings.1.0, settings.1.1)
  ]
]

pub settings_not_bad : (words : List Text) (settings : Settings) (field : Field) → IsSettingsInRange words settings → HasBadNumber words field → ⊥
settings_not_bad words settings field is bad = elim bad [
  | inl format ↦ apart words (codes "settings") (codes "format") refl refl (is.1.0, is.1.1) (format.1.0, format.1.1)
  | inr more ↦ elim more [
    | inl load ↦ apart words (codes "settings") (codes "load") refl refl (is.1.0, is.1.1) (load.1.0, load.1.1)
    | inr other ↦ some_other field (sym is.2 ∙ ap first_bad_setting (same_wanted_settings words is.0 other.0 is.1 other.1) ∙ other.2)
  ]
]

-- words with another subcommand
other_not_bad : (words : List Text) (x : Text) (field : Field) → bytes_eq x x ≡ true → bytes_eq x (codes "format") ≡ false → bytes_eq x (codes "load") ≡ false → bytes_eq x (codes "settings") ≡ false
    → Taken words x → HasBadNumber words field → ⊥
other_not_bad words x field own format load settings is bad = elim bad [
  | inl by ↦ apart words x (codes "format") own format is (by.1.0, by.1.1)
  | inr more ↦ elim more [
    | inl by ↦ apart words x (codes "load") own load is (by.1.0, by.1.1)
    | inr by ↦ apart words x (codes "settings") own settings is (by.1.0, by.1.1)
  ]
]

pub serve_not_bad : (words : List Text) (field : Field) → IsServe words → HasBadNumber words field → ⊥
serve_not_bad words field is bad = other_not_bad words (codes "serve") field refl refl refl refl is bad

pub grow_not_bad : (words : List Text) (pages : ℕ) (field : Field) → IsGrow words pages → HasBadNumber words field → ⊥
grow_not_bad words pages field is bad = other_not_bad words (codes "grow") field refl refl refl refl (is.0, is.1) bad

pub check_not_bad : (words : List Text) (field : Field) → IsCheck words → HasBadNumber words field → ⊥
check_not_bad words field is bad = other_not_bad words (codes "check") field refl refl refl refl is bad

pub tables_not_bad : (words : List Text) (field : Field) → IsTables words → HasBadNumber words field → ⊥
tables_not_bad words field is bad = other_not_bad words (codes "tables") field refl refl refl refl is bad

pub dump_not_bad : (words : List Text) (field : Field) → IsDump words → HasBadNumber words field → ⊥
dump_not_bad words field is bad = other_not_bad words (codes "dump") field refl refl refl refl is bad

pub build_not_bad : (words : List Text) (field : Field) → IsMapBuild words → HasBadNumber words field → ⊥
build_not_bad words field is bad = other_not_bad words (codes "fstbuild") field refl refl refl refl is bad

pub serve_map_not_bad : (words : List Text) (field : Field) → IsMapServe words → HasBadNumber words field → ⊥
serve_map_not_bad words field is bad = other_not_bad words (codes "fstserve") field refl refl refl refl is bad

-- of two numbers out of range, the first of one subcommand
pub same_field : (words : List Text) (x y : Field) → HasBadNumber words x → HasBadNumber words y → x ≡ y
same_field words x y a b = elim a [
  | inl format ↦ elim b [
    | inl other ↦ ap (λ (o : Option Field). unwrap_or o x) (sym format.2 ∙ ap first_bad_word (same_wanted words format.0 other.0 format.1 other.1) ∙ other.2)
    | inr more ↦ elim more [
      | inl load ↦ absurd (apart words (codes "format") (codes "load") refl refl (format.1.0, format.1.1) (load.1.0, load.1.1))
      | inr settings ↦ absurd (apart words (codes "format") (codes "settings") refl refl (format.1.0, format.1.1) (settings.1.0, settings.1.1))
    ]
  ]
  | inr more ↦ elim more [
    | inl load ↦ elim b [
      | inl format ↦ absurd (apart words (codes "format") (codes "load") refl refl (format.1.0, format.1.1) (load.1.0, load.1.1))
      | inr others ↦ elim others [
        | inl other ↦ load.3 ∙ sym other.3
        | inr settings ↦ absurd (apart words (codes "load") (codes "settings") refl refl (load.1.0, load.1.1) (settings.1.0, settings.1.1))
      ]
    ]
    | inr settings ↦ elim b [
      | inl format ↦ absurd (apart words (codes "format") (codes "settings") refl refl (format.1.0, format.1.1) (settings.1.0, settings.1.1))
      | inr others ↦ elim others [
        | inl load ↦ absurd (apart words (codes "load") (codes "settings") refl refl (load.1.0, load.1.1) (settings.1.0, settings.1.1))
        | inr other ↦ ap (λ (o : Option Field). unwrap_or o x) (sym settings.2 ∙ ap first_bad_setting (same_wanted_settings words settings.0 other.0 settings.1 other.1) ∙ other.2)
      ]
    ]
  ]
]

-- the settings that are taken are in range
in_range : (hash real ratio : Bool) → (if hash then Some field.HashBits else if real then Some field.RealBits else if ratio then Some field.Ratio else None) ≡ None → (hash ≡ false) × (real ≡ false)
in_range true real ratio good = absurd cc
in_range false true ratio good = absurd cc
in_range false false ratio good = (refl, refl)

pub settings_in_range : (wanted : WantedSettings) (settings : Settings) → first_bad_setting wanted ≡ None → AreSettingsOf wanted settings → InRange settings
settings_in_range wanted settings good of =
    let hash = named_hash_bits of.0 wanted.hash_bits in
    let real = named_real_bits of.0 wanted.real_bits in
    let named : first_bad_number wanted of.0 ≡ None = sym (ap (λ (o : Option Variant). option_map_or (first_bad_number wanted) o (Some field.Variant)) of.1) ∙ good in
    let both = in_range (nat_lt max_hash_bits hash) (nat_lt max_real_bits real) (nat_lt max_ratio wanted.ratio) named in
    subst InRange (sym of.2) (record { hash_bits = ltb-false max_hash_bits hash both.0; real_bits = ltb-false max_real_bits real both.1 })

module _ (words : List Text) where
  -- ---- words that are taken are no request for help, and not refused

  pub not_help : fault_of store_app words ≡ [] → IsHelp words → ⊥
  not_help none any = let never : false ≡ true = sym (ap (list_any is_request) none) ∙ any in cc

  pub number_taken : (field : Field) → HasBadNumber words field → fault_of store_app words ≡ []
  number_taken field bad = elim bad [
    | inl format ↦ format.1.1.taken
    | inr more ↦ elim more [ inl load ↦ load.1.1.taken | inr settings ↦ settings.1.1.taken ]
  ]

  pub opens_taken : OpensStore words → fault_of store_app words ≡ []
  opens_taken is = elim is [
    | inl fits ↦ elim fits [ inl serve ↦ serve.1.taken | inr more ↦ elim more [ inl load ↦ load.1.0.1.taken | inr settings ↦ settings.1.1.1.taken ] ]
    | inr grow ↦ grow.1.1.taken
  ]

  pub opens_not_format : (wanted : Wanted) → OpensStore words → IsFormat words wanted → ⊥
  opens_not_format wanted is format = elim is [
    | inl fits ↦ elim fits [
      | inl serve ↦ apart words (codes "format") (codes "serve") refl refl (format.0, format.1) serve
      | inr more ↦ elim more [
        | inl load ↦ apart words (codes "format") (codes "load") refl refl (format.0, format.1) (load.1.0.0, load.1.0.1)
        | inr settings ↦ apart words (codes "format") (codes "settings") refl refl (format.0, format.1) (settings.1.1.0, settings.1.1.1)
      ]
    ]
    | inr grow ↦ apart words (codes "format") (codes "grow") refl refl (format.0, format.1) (grow.1.0, grow.1.1)
  ]

  pub opens_not_bad : (field : Field) → OpensStore words → HasBadNumber words field → ⊥
  opens_not_bad field is bad = elim is [
    | inl fits ↦ elim fits [ inl serve ↦ serve_not_bad words field serve bad | inr more ↦ elim more [ inl load ↦ load_not_bad words load.0 field load.1 bad | inr settings ↦ settings_not_bad words settings.0 field settings.1 bad ] ]
    | inr grow ↦ grow_not_bad words grow.0 field grow.1 bad
  ]

  pub not_grow : (pages : ℕ) → OpensWithoutGrowing words → IsGrow words pages → ⊥
  not_grow pages is grow = elim is [
    | inl serve ↦ apart words (codes "grow") (codes "serve") refl refl (grow.0, grow.1) serve
    | inr more ↦ elim more [
      | inl load ↦ apart words (codes "grow") (codes "load") refl refl (grow.0, grow.1) (load.1.0.0, load.1.0.1)
      | inr settings ↦ apart words (codes "grow") (codes "settings") refl refl (grow.0, grow.1) (settings.1.1.0, settings.1.1.1)
    ]
  ]

  -- a subcommand with another name opens no store to write
  opens_not_other : (x : Text) → bytes_eq x x ≡ true → bytes_eq x (codes "serve") ≡ false → bytes_eq x (codes "load") ≡ false → bytes_eq x (codes "settings") ≡ false → bytes_eq x (codes "grow") ≡ false
      → OpensStore words → Taken words x → ⊥
  opens_not_other x own no_serve no_load no_settings no_grow is taken = elim is [
    | inl fits ↦ elim fits [
      | inl serve ↦ apart words x (codes "serve") own no_serve taken serve
      | inr more ↦ elim more [
        | inl load ↦ apart words x (codes "load") own no_load taken (load.1.0.0, load.1.0.1)
        | inr settings ↦ apart words x (codes "settings") own no_settings taken (settings.1.1.0, settings.1.1.1)
      ]
    ]
    | inr grow ↦ apart words x (codes "grow") own no_grow taken (grow.1.0, grow.1.1)
  ]

  pub opens_not_check : OpensStore words → IsCheck words → ⊥
  opens_not_check is check = opens_not_other (codes "check") refl refl refl refl refl is check

  pub opens_not_tables : OpensStore words → IsTables words → ⊥
  opens_not_tables is tables = opens_not_other (codes "tables") refl refl refl refl refl is tables

  pub opens_not_dump : OpensStore words → IsDump words → ⊥
  opens_not_dump is dump = opens_not_other (codes "dump") refl refl refl refl refl is dump

  pub opens_not_build : OpensStore words → IsMapBuild words → ⊥
  opens_not_build is build = opens_not_other (codes "fstbuild") refl refl refl refl refl is build

  pub opens_not_serve_map : OpensStore words → IsMapServe words → ⊥
  opens_not_serve_map is serve = opens_not_other (codes "fstserve") refl refl refl refl refl is serve

  -- words that are taken and not out of range ask for something
  pub asks_nothing : fault_of store_app words ≡ [] → ((field : Field) → HasBadNumber words field → ⊥) → AreRefusedWords words ⊎ (IsHelp words ⊎ ((field : Field) × HasBadNumber words field)) → ⊥
  asks_nothing taken good is = elim is [
    | inl refused ↦ refused.fails taken
    | inr more ↦ elim more [ inl help ↦ not_help taken help | inr bad ↦ good bad.0 bad.1 ]
  ]
