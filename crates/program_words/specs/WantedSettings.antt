-- What words name of filters, and which of these numbers is out of range.
use Rattle.std.specs.Prelude.{◌≡◌, ℕ, nat_lt, if◌then◌else◌, Option, Some, None, codes}
use Rattle.std.specs.Option.{option_map_or}
use Rattle.std.specs.Str.{bytes_eq}
use Rattle.clap.specs.Walk.{Text}
use Rattle.filter_api.specs.declared.settings.Field.{Field}
use Rattle.filter_api.specs.declared.settings.Field.TheVariants as field
use Rattle.filter_api.specs.declared.settings.Settings.{Settings}
use Rattle.key_base.specs.Limits.{max_hash_bits, max_ratio, max_real_bits}
use Rattle.program_words.specs.declared.wanted_settings.WantedSettings.{WantedSettings}
use Rattle.program_words.specs.declared.wanted_settings.Variant.{Variant}
use Rattle.program_words.specs.declared.wanted_settings.Variant.TheVariants.{Base, Hash, Real, Mixed}

abbrev pub variant_named : Text → Option Variant
variant_named name =
    if bytes_eq name (codes "base") then Some Base
    else if bytes_eq name (codes "hash") then Some Hash
    else if bytes_eq name (codes "real") then Some Real
    else if bytes_eq name (codes "mixed") then Some Mixed
    else None

-- the bits that a variant has of those that are named; those that it does not have are ignored
abbrev pub named_hash_bits : Variant → ℕ → ℕ
named_hash_bits Base named = 0
named_hash_bits Hash named = named
named_hash_bits Real named = 0
named_hash_bits Mixed named = named

abbrev pub named_real_bits : Variant → ℕ → ℕ
named_real_bits Base named = 0
named_real_bits Hash named = 0
named_real_bits Real named = named
named_real_bits Mixed named = named

-- the first number out of range, of filters of a variant
abbrev pub first_bad_number : WantedSettings → Variant → Option Field
first_bad_number wanted variant =
    if nat_lt max_hash_bits (named_hash_bits variant wanted.hash_bits) then Some field.HashBits
    else if nat_lt max_real_bits (named_real_bits variant wanted.real_bits) then Some field.RealBits
    else if nat_lt max_ratio wanted.ratio then Some field.Ratio
    else None

-- the first of all that is out of range, where a word that names no variant is
abbrev pub first_bad_setting : WantedSettings → Option Field
first_bad_setting wanted = option_map_or (first_bad_number wanted) wanted.variant (Some field.Variant)

abbrev pub named_settings : Variant → WantedSettings → Settings
named_settings variant wanted = record { hash_bits = named_hash_bits variant wanted.hash_bits; real_bits = named_real_bits variant wanted.real_bits; ratio = wanted.ratio }

-- the settings that are named
abbrev pub AreSettingsOf : WantedSettings → Settings → Type 0
AreSettingsOf wanted settings = (variant : Variant) × (wanted.variant ≡ Some variant) × (settings ≡ named_settings variant wanted)
