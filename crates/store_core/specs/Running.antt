-- The merge that runs in a store.
use Rattle.std.specs.Prelude.{◌≢◌, ◌<◌, ◌≤◌, ◌+◌, ◌++◌, List, [], length, map, Option, Some, None}
use Rattle.std.specs.List.{AllByRecursion, AllPairs}
use Rattle.byte_fields.specs.declared.parts.Row.{Row}
use Rattle.disk_trait.specs.Image.{Image}
use Rattle.extent_model.specs.Extents.{AreLaid, Extent}
use Rattle.filter_api.specs.Spellings.{Spelling}
use Rattle.level_merge.specs.Follows.{Follows}
use Rattle.level_merge.specs.JobValue.{AreAllWritten, JobValue}
use Rattle.manifest_model.specs.Rows.{IsTableRow, extent_of}
use Rattle.manifest_model.specs.Version.{Version}
use Rattle.merge_rows.specs.Steps.{AreWalksIn, numbers, stands}
use Rattle.state_model.specs.State.{Job, State}
use Rattle.table_file.specs.Opened.{Opened}

-- ---- what it has written

-- the rows of its outputs
abbrev pub outputs_in : Option JobValue → List Row
outputs_in None = []
outputs_in (Some m) = m.outputs

-- the extents that are taken with these outputs under a version
abbrev pub extents_with : Version → List Row → List Extent
extents_with v outputs = map extent_of (v.rows ++ outputs)

-- ---- whatever the device holds

-- It reads tables that are there, each once. Its outputs are written, each a table's, apart from one another and from those of the
-- version, and they are no more than the tables that it reads.
pub record IsRun (v : Version) (tables : List Opened) (m : JobValue) : Type 0 where
  pub apart : AllPairs (λ number other. number ≢ other) (numbers m.merge.walks)
  pub numbers : AreWalksIn tables (stands m.merge.walks)
  pub written : AreAllWritten m
  pub rows : AllByRecursion IsTableRow m.outputs
  pub laid : AreLaid v.pages (extents_with v m.outputs)
  pub few : length m.outputs ≤ length m.merge.walks

-- while it is not done one more may come, and those beside it
abbrev pub HasMoreToMake : JobValue → Type 0
HasMoreToMake m = length m.outputs + m.beside < length m.merge.walks

-- so of the one that runs, if one does
abbrev pub MayRunIn : Version → List Opened → Option JobValue → Type 0
MayRunIn v tables None = Unit {0}
MayRunIn v tables (Some m) = IsRun v tables m × HasMoreToMake m

-- ---- with its device

-- It follows the job of the state, as an image shows it; or none runs, neither in memory nor in the state.
abbrev pub RunsAs : Spelling → List Opened → Option JobValue → State → Option Job → Image → Type 0
RunsAs spelling opened None s None image = Unit {0}
RunsAs spelling opened (Some m) s (Some job) image = Follows spelling s opened image m job
RunsAs spelling opened running s job image = ⊥
