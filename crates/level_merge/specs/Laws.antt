-- The tables of a device are those of its state.
use Rattle.std.specs.Prelude.{◌≡◌, ℕ, List, []}
use Rattle.disk_trait.specs.Image.{Image}
use Rattle.entry_model.specs.Entries.{Entry}
use Rattle.filter_api.specs.Spellings.{Spelling}
use Rattle.level_merge.specs.JobValue.{outputs_with}
use Rattle.level_merge.specs.Plans.{Agrees}
use Rattle.state_model.specs.Merges.{outputs_of}
use Rattle.state_model.specs.WithoutRanges.{HasNoRange}
use Rattle.store_search.specs.TablesAgree.{TableAgrees}
use Rattle.table_file.specs.Opened.{Opened}
use Rattle.table_model.specs.Tables.{Table}

-- an open table that is a state's on a device, without ranges, agrees with it as far as memory tells
abbrev pub StandingAgrees : Type 0
StandingAgrees = (spelling : Spelling) (opened : Opened) (t : Table) (image : Image) → TableAgrees spelling opened t image → HasNoRange t → Agrees opened t

-- where nothing is built yet, the outputs that are left are those of the rows
abbrev pub OutputsFollow : Type 0
OutputsFollow = (beside : ℕ) (rows : List Entry) → outputs_with beside [] rows ≡ outputs_of beside rows
