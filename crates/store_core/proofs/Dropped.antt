-- A store whose merge is dropped is that of the state without its job.
use Rattle.std.proofs.Common.{◌≡◌, ◌∙◌, List, [], sym, ap, subst}
use Rattle.std.specs.Prelude.{Option, None}
use Rattle.std.specs.List.{AllByRecursion}
use Rattle.disk_trait.specs.Image.{Image}
use Rattle.disk_trait.specs.World.{World}
use Rattle.filter_api.specs.Spellings.{Spelling}
use Rattle.level_merge.specs.JobValue.{JobValue}
use Rattle.state_model.proofs.SoundJobs.{drop_sound}
use Rattle.state_model.specs.State.{State, without_job}
use Rattle.table_file.specs.Opened.{Opened}
use Rattle.table_model.specs.Images.{StandsInExtent}
use Rattle.table_model.specs.Tables.{FilterBytes}
use Rattle.manifest.specs.Manifest.{Manifest}
use Rattle.store_search.specs.Caching.{CacheAgrees, Cached}
use Rattle.store_core.specs.StoreValue.{StoreValue}
use Rattle.store_core.specs.Represents.{Represents, RepresentsOn}

pub under_dropped : (spelling : Spelling) (m : Manifest) (opened : List Opened) (running : Option JobValue) (s : State) (image : Image) → s.kept ≡ [] → RepresentsOn spelling m opened running s image
    → RepresentsOn spelling m opened None (without_job s) image
under_dropped spelling m opened running s image none_kept under = record {
  ready = record {
    current = under.ready.current;
    gate = under.ready.gate;
    named = under.ready.named;
    unnamed = subst (AllByRecursion (StandsInExtent spelling image)) (sym none_kept) tt;
  };
  tables = under.tables;
  job = tt;
}

pub tied_dropped : (spelling : Spelling) (bytes : FilterBytes) (store : StoreValue) (s : State) (w : World) → Represents spelling bytes store s w
    → Represents spelling bytes (record store { job = None }) (without_job s) w
tied_dropped spelling bytes store s w tied = record {
  sound = drop_sound bytes s tied.sound;
  none_kept = tied.none_kept;
  images = λ image left. under_dropped spelling store.manifest store.tables store.job s image tied.none_kept (tied.images image left);
  log = tied.log;
  memory = tied.memory;
  ranges = tied.ranges;
  blocks = tied.blocks;
}

-- with other fields the same
pub tied_fields : (spelling : Spelling) (bytes : FilterBytes) (store after : StoreValue) (s : State) (w : World) → after.manifest ≡ store.manifest → after.tables ≡ store.tables → after.job ≡ store.job
    → after.log ≡ store.log → after.memory ≡ store.memory → after.blocks ≡ store.blocks → Represents spelling bytes store s w → Represents spelling bytes after s w
tied_fields spelling bytes store after s w manifest_is tables_are job_is log_is memory_is blocks_is tied = record {
  sound = tied.sound;
  none_kept = tied.none_kept;
  images = λ image left.
      subst (λ (j : Option JobValue). RepresentsOn spelling after.manifest after.tables j s image) (sym job_is)
      (subst (λ (ts : List Opened). RepresentsOn spelling after.manifest ts store.job s image) (sym tables_are)
      (subst (λ (m : Manifest). RepresentsOn spelling m store.tables store.job s image) (sym manifest_is) (tied.images image left)));
  log = ap (λ (p : _). p.filled) log_is ∙ tied.log;
  memory = ap (λ (m : _). m.entries) memory_is ∙ tied.memory;
  ranges = ap (λ (m : _). m.ranges) memory_is ∙ tied.ranges;
  blocks = subst (λ (b : Cached). CacheAgrees b after.tables s.tables) (sym blocks_is) (subst (λ (ts : List Opened). CacheAgrees store.blocks ts s.tables) (sym tables_are) tied.blocks);
}
