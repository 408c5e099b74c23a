-- What a store has, in numbers.
use Rattle.std.specs.Prelude.{◌≡◌, ◌-◌, ℕ, List, fold}
use Rattle.extent_model.specs.Extents.{Extent}
use Rattle.extent_model.specs.Gaps.{largest_gap}
use Rattle.image_model.specs.Stands.{settings_of}
use Rattle.key_base.specs.Limits.{first_table_page}
use Rattle.state_model.specs.Logs.{filled_by}
use Rattle.state_model.specs.State.{State}
use Rattle.state_model.specs.Taken.{taken}
use Rattle.store_core.specs.Running.{extents_with, outputs_in}
use Rattle.store_core.specs.StoreValue.{StoreValue}
use Rattle.store_core.specs.declared.numbers.Numbers.{Numbers}

-- how many of a given number of pages are left once these extents are taken
abbrev pub pages_left : ℕ → List Extent → ℕ
pages_left pages extents = fold (λ left (extent : Extent). left - extent.1) pages extents

-- the numbers are those of a store: its tables, and what a merge that runs has written, take their pages
pub record HasNumbers (store : StoreValue) (numbers : Numbers) : Type 0 where
  pub pages : numbers.pages ≡ store.manifest.version.pages
  pub free : numbers.free ≡ pages_left (store.manifest.version.pages - first_table_page) (extents_with store.manifest.version (outputs_in store.job))
  pub gap : numbers.gap ≡ largest_gap store.manifest.version.pages (extents_with store.manifest.version (outputs_in store.job))
  pub epoch : numbers.epoch ≡ store.manifest.version.epoch
  pub log_bytes : numbers.log_bytes ≡ store.log.filled
  pub settings : numbers.settings ≡ settings_of store.manifest.version

-- the numbers are those of a state
pub record AreNumbersOf (s : State) (numbers : Numbers) : Type 0 where
  pub pages : numbers.pages ≡ s.pages
  pub free : numbers.free ≡ pages_left (s.pages - first_table_page) (taken s)
  pub gap : numbers.gap ≡ largest_gap s.pages (taken s)
  pub epoch : numbers.epoch ≡ s.epoch
  pub log_bytes : numbers.log_bytes ≡ filled_by s.log
  pub settings : numbers.settings ≡ s.settings
