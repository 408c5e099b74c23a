-- Which states a store may be in.
use Rattle.std.specs.Prelude.{◌≡◌, ◌⊎◌, ◌<◌, ◌≤◌, ◌*◌, ℕ, List, [], ◌∷◌, length, drop, Option, Some, None}
use Rattle.std.specs.List.{AllByRecursion, AllPairs, sum_by}
use Rattle.filter_api.specs.declared.settings.Settings.{Settings}
use Rattle.filter_api.specs.Ranges.{InRange}
use Rattle.key_base.specs.Limits.{last_epoch, log_bytes, max_block_entries, max_device_pages, max_level, max_ratio, max_tables, min_device_pages}
use Rattle.range_model.specs.Ranges.{HasBounds}
use Rattle.range_model.specs.Sources.{IsSource, Source}
use Rattle.state_model.specs.Logs.{IsLoggedChange, filled_by}
use Rattle.block_model.specs.Block.{IsTable}
use Rattle.state_model.specs.State.{State, Job}
use Rattle.table_model.specs.Tables.{FilterBytes, Table, as_source, table_from}
use Rattle.extent_model.specs.Extents.{IsOnDevice, AreApart}
use Rattle.state_model.specs.Taken.{taken}
use Rattle.state_model.specs.Merges.{Plan, LiesBelow, choose, planned, on_level, least_key}

-- a table has one entry or more, with strictly rising keys, and one block or more, each of a page or more and of not too
-- many entries; its ranges rise, begin at keys of the entries and have keys as bounds; its settings are in range
pub record IsSoundTable (t : Table) : Type 0 where
  pub level : t.level ≤ max_level
  pub entries : IsTable t.entries
  pub source : IsSource (as_source t)
  pub bounds : AllByRecursion HasBounds t.ranges
  pub blocks : (1 ≤ t.blocks) × (t.blocks ≤ t.pages)
  pub few : length t.entries ≤ max_block_entries * t.blocks
  pub settings : InRange t.settings
  pub ratio : t.settings.ratio ≤ max_ratio

-- The one comes before the other: it is of a lesser level, or of the same one and then, below level 0, all of it lies below
-- the keys of the other.
abbrev pub StandsBefore : Table → Table → Type 0
StandsBefore t u = (t.level < u.level) ⊎ ((t.level ≡ u.level) × ((t.level ≡ 0) ⊎ LiesBelow t (least_key u)))

-- these tables are made of the first of some outputs, one of each
abbrev pub AreMade : FilterBytes → Settings → ℕ → List Source → List Table → Type 0
AreMade filter_bytes settings level outputs [] = Unit {0}
AreMade filter_bytes settings level [] (t ∷ more) = ⊥
AreMade filter_bytes settings level (output ∷ outputs) (t ∷ more) =
    (t ≡ table_from filter_bytes settings level t.first_page output) × AreMade filter_bytes settings level outputs more

-- the plan of a job
abbrev pub plan_of_job : Job → Plan
plan_of_job job = record { inputs = job.inputs; output = job.output }

-- A job merges what was chosen of a version's tables before some later flushes, and what it has written are the first of
-- its outputs.
pub record IsJob (filter_bytes : FilterBytes) (settings : Settings) (tables : List Table) (job : Job) : Type 0 where
  pub flushes : ℕ
  pub few : flushes ≤ length (on_level 0 tables)
  pub chosen : choose (drop flushes tables) ≡ Some (plan_of_job job)
  pub to_read : job.to_read ≤ sum_by (λ (t : Table). t.blocks) job.inputs
  pub written : AreMade filter_bytes settings job.output (planned tables (plan_of_job job)) job.written

abbrev pub MayRun : FilterBytes → Settings → List Table → Option Job → Type 0
MayRun filter_bytes settings tables None = Unit {0}
MayRun filter_bytes settings tables (Some job) = IsJob filter_bytes settings tables job

pub record IsSound (filter_bytes : FilterBytes) (s : State) : Type 0 where
  pub settings : InRange s.settings
  pub ratio : s.settings.ratio ≤ max_ratio
  pub device : (min_device_pages ≤ s.pages) × (s.pages ≤ max_device_pages)
  pub epoch : (1 ≤ s.epoch) × (s.epoch ≤ last_epoch)
  pub log : AllByRecursion IsLoggedChange s.log
  pub log_fits : filled_by s.log < log_bytes
  pub few : length s.tables ≤ max_tables
  pub tables : AllByRecursion IsSoundTable s.tables
  pub order : AllPairs StandsBefore s.tables
  pub on_device : AllByRecursion (IsOnDevice s.pages) (taken s)
  pub apart : AllPairs AreApart (taken s)
  pub job : MayRun filter_bytes s.settings s.tables s.job

-- What a failed write leaves: a sound state of the same settings and pages, in which no job runs.
pub record IsLeft (filter_bytes : FilterBytes) (s after : State) : Type 0 where
  pub settings : after.settings ≡ s.settings
  pub pages : after.pages ≡ s.pages
  pub no_job : after.job ≡ None
  pub sound : IsSound filter_bytes after
