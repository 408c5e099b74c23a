-- The state of a store: what its log and its tables hold, and the merge that runs.
use Rattle.std.specs.Prelude.{ℕ, List, [], Option, Some, None}
use Rattle.filter_api.specs.declared.settings.Settings.{Settings}
use Rattle.range_model.specs.Sources.{Change}
use Rattle.table_model.specs.Tables.{Table}

-- A merge that runs: the tables that it merges, the level of the tables that it makes, how many blocks are still to
-- read, and those of its tables that are written.
pub record Job : Type 0 where
  pub inputs : List Table
  pub output : ℕ
  pub to_read : ℕ
  pub written : List Table

-- The settings are those of new tables. The log's changes are in the order of writing. Of the tables, those of level 0 come first, the newest of them first;
-- then come the deeper levels, each by rising keys. Kept tables belong to no version, but their pages are taken: cursors still
-- read them. No cursor is between two lines today; where cursors are a part of the state, what is kept is computed from them.
pub record State : Type 0 where
  pub settings : Settings
  pub pages : ℕ
  pub epoch : ℕ
  pub log : List Change
  pub tables : List Table
  pub job : Option Job
  pub kept : List Table

-- a store as it is made: epoch 1, and nothing in it
abbrev pub new_state : Settings → ℕ → State
new_state settings pages = record { settings = settings; pages = pages; epoch = 1; log = []; tables = []; job = None; kept = [] }

-- the state without its job
abbrev pub without_job : State → State
without_job s = record s { job = None }

-- the tables that the job has written
abbrev pub written_by : Option Job → List Table
written_by None = []
written_by (Some job) = job.written
