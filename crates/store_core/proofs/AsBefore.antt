-- A store that is as it was represents what it did.
use Rattle.std.proofs.Common.{ℕ, refl, sym, subst}
use Rattle.disk_trait.specs.World.{World}
use Rattle.filter_api.specs.Spellings.{Spelling}
use Rattle.map_model.specs.SortedMap.{Bytes}
use Rattle.table_model.specs.Tables.{FilterBytes}
use Rattle.store_core.specs.AsBefore.{RepresentsAsBefore}
use Rattle.store_core.specs.Staying.{IsAsItWas}
use Rattle.store_core.specs.StoreValue.{StoreValue}

module _ (spelling : Spelling) (bytes : FilterBytes) (before : StoreValue) (w : World) where
  -- whatever spare places it has, and whatever was read or built last
  with_others : (spare : ℕ) (buffer : Bytes) → RepresentsAsBefore spelling bytes before (record before { memory = record before.memory { spare = spare }; buffer = buffer }) w
  with_others spare buffer = record {
    back = refl;
    represents = λ s tied. record {
      sound = tied.sound;
      none_kept = tied.none_kept;
      images = tied.images;
      log = tied.log;
      memory = tied.memory;
      ranges = tied.ranges;
      blocks = tied.blocks;
    };
    reads = λ s image shown. record { sound = shown.sound; under = shown.under; memory = shown.memory; ranges = shown.ranges };
    flush = λ entries allowed some. let here = allowed some in record { few = here.few; page = here.page; gap = here.gap; epoch = here.epoch };
    entry = λ e allowed asks some. let here = allowed asks some in record { few = here.few; page = here.page; gap = here.gap; epoch = here.epoch };
  }

  pub represents_as_before : (after : StoreValue) → IsAsItWas before after → RepresentsAsBefore spelling bytes before after w
  represents_as_before after is = subst (λ (k : StoreValue). RepresentsAsBefore spelling bytes before k w) (sym is) (with_others after.memory.spare after.buffer)
