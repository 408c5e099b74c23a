-- The numbers of a state.
use Rattle.std.proofs.Common.{◌≡◌, ◌∙◌, ◌-◌, ℕ, List, [], sym, ap₂}
use Rattle.disk_trait.specs.Image.{Image}
use Rattle.extent_model.specs.Extents.{Extent}
use Rattle.extent_model.specs.Gaps.{largest_gap}
use Rattle.filter_api.specs.Spellings.{Spelling}
use Rattle.key_base.specs.Limits.{first_table_page}
use Rattle.state_model.specs.Logs.{filled_by}
use Rattle.state_model.specs.State.{State}
use Rattle.table_model.specs.Tables.{FilterBytes}
use Rattle.store_core.proofs.Agreed.{agree}
use Rattle.store_core.specs.Numbering.{AreNumbersOf, HasNumbers, pages_left}
use Rattle.store_core.specs.Represents.{ReadsAs}
use Rattle.store_core.specs.StoreValue.{StoreValue}
use Rattle.store_core.specs.declared.numbers.Numbers.{Numbers}

-- what a store has are the numbers of the state as which it reads
pub numbers_of : (spelling : Spelling) (bytes : FilterBytes) (store : StoreValue) (s : State) (image : Image) (n : Numbers) → ReadsAs spelling bytes store s image → s.kept ≡ [] → store.log.filled ≡ filled_by s.log
    → HasNumbers store n → AreNumbersOf s n
numbers_of spelling bytes store s image n reads none_kept log has =
    let same = agree spelling store.manifest store.tables store.job s image none_kept reads.under in
    record {
      pages = has.pages ∙ sym same.pages;
      free = has.free ∙ ap₂ (λ (pages : ℕ) (extents : List Extent). pages_left (pages - first_table_page) extents) (sym same.pages) (sym same.taken_is);
      gap = has.gap ∙ ap₂ (λ (pages : ℕ) (extents : List Extent). largest_gap pages extents) (sym same.pages) (sym same.taken_is);
      epoch = has.epoch ∙ sym same.epoch;
      log_bytes = has.log_bytes ∙ log;
      settings = has.settings ∙ sym same.settings;
    }
