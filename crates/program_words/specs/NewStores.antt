-- A new store, and which of its numbers is out of range.
use Rattle.std.specs.Prelude.{◌≡◌, ◌||◌, nat_lt, if◌then◌else◌, Option, Some}
use Rattle.filter_api.specs.declared.settings.Field.{Field}
use Rattle.filter_api.specs.declared.settings.Field.TheVariants as field
use Rattle.key_base.specs.Limits.{max_device_pages, min_device_pages}
use Rattle.program_words.specs.WantedSettings.{AreSettingsOf, first_bad_setting}
use Rattle.program_words.specs.declared.new_store.NewStore.{NewStore}
use Rattle.program_words.specs.declared.new_store.Wanted.{Wanted}

-- the first number that is out of range: the pages, then the settings
abbrev pub first_bad_word : Wanted → Option Field
first_bad_word wanted = if nat_lt wanted.pages min_device_pages || nat_lt max_device_pages wanted.pages then Some field.Pages else first_bad_setting wanted.settings

-- the store that is wanted
pub record IsStoreOf (wanted : Wanted) (store : NewStore) : Type 0 where
  pub pages : store.pages ≡ wanted.pages
  pub settings : AreSettingsOf wanted.settings store.settings
