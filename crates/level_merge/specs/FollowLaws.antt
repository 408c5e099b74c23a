-- A merge that follows a job goes on to follow it, whatever is done between two merge slices.
use Rattle.std.specs.Prelude.{◌≡◌, ◌<◌, ◌-◌, ◌++◌, ℕ, Bool, List, [], ◌∷◌, length, map, Option, Some}
use Rattle.std.specs.List.{AllByRecursion}
use Rattle.disk_trait.specs.Image.{Image}
use Rattle.entry_model.specs.Entries.{Entry}
use Rattle.entry_model.specs.Newest.{KeysRise, newest_entries}
use Rattle.filter_api.specs.Spellings.{Spelling}
use Rattle.filter_api.specs.declared.settings.Settings.{Settings}
use Rattle.level_merge.specs.Follows.{Follows}
use Rattle.store_search.specs.TablesAgree.{TablesAgree}
use Rattle.level_merge.specs.Making.{OutputsLeft}
use Rattle.level_merge.specs.JobValue.{JobValue, begun, compaction, merge_of}
use Rattle.level_merge.specs.Plans.{IsPlanOf, MayStart, PlanByNumbers, numbered}
use Rattle.merge_rows.specs.Laws.{memory_entries}
use Rattle.merge_rows.specs.Steps.{numbers}
use Rattle.state_model.specs.Changes.{live_entries}
use Rattle.state_model.specs.Merges.{Plan, lasting, outputs_for, outputs_of}
use Rattle.state_model.specs.State.{Job, State}
use Rattle.state_model.specs.Tends.{started}
use Rattle.state_model.specs.View.{memory}
use Rattle.state_model.specs.WithoutRanges.{HasNoRange, HasOnlyEntries, table_entries}
use Rattle.table_file.specs.Opened.{Opened}
use Rattle.table_model.specs.Tables.{Table}

-- a merge that begins makes the outputs of the newest entries of its tables and of the memory
abbrev pub MergeBegins : Type 0
MergeBegins =
    (spelling : Spelling) (settings : Settings) (opened : List Opened) (tables inputs : List Table) (image : Image) (which : List ℕ) (entries : Option (List Entry)) (output : ℕ)
    (drops : Bool) → TablesAgree spelling opened tables image → map (numbered tables) which ≡ map (λ (t : Table). Some t) inputs → KeysRise (memory_entries entries)
    → OutputsLeft spelling opened image (merge_of which entries output drops settings opened)
    (outputs_of (length which - 1) (lasting drops (newest_entries (table_entries inputs ++ memory_entries entries)))) []

-- where no table has a range, a merge that begins follows the job that begins
abbrev pub BegunFollows : Type 0
BegunFollows =
    (spelling : Spelling) (s : State) (opened : List Opened) (image : Image) (p : PlanByNumbers) (plan : Plan) → TablesAgree spelling opened s.tables image
    → AllByRecursion HasNoRange s.tables → MayStart opened p → IsPlanOf s.tables (Some p) (Some plan) → Follows spelling s opened image (begun p s.settings opened) (started plan)

-- where neither the log nor a table has a range, the merge of the memory and of all tables makes the outputs of a compaction
abbrev pub CompactionMakes : Type 0
CompactionMakes =
    (spelling : Spelling) (s : State) (entries : List Entry) (opened : List Opened) (image : Image) → HasOnlyEntries s entries → TablesAgree spelling opened s.tables image
    → OutputsLeft spelling opened image (compaction (memory s) s.settings opened) (outputs_for s.tables (live_entries s)) []

-- a table of level 0 that is put before all others changes nothing for it
abbrev pub FlushedIsFollowed : Type 0
FlushedIsFollowed =
    (spelling : Spelling) (s after : State) (opened : List Opened) (new : Opened) (t : Table) (image : Image) (m : JobValue) (job : Job) → t.level ≡ 0
    → AllByRecursion (λ number. number < length opened) (numbers m.merge.walks) → length opened ≡ length s.tables
    → after.settings ≡ s.settings → after.tables ≡ t ∷ s.tables
    → Follows spelling s opened image m job → Follows spelling after (new ∷ opened) image m job

-- nor does another image that shows the same tables
abbrev pub OtherImageIsFollowed : Type 0
OtherImageIsFollowed =
    (spelling : Spelling) (s : State) (opened : List Opened) (image other : Image) (m : JobValue) (job : Job) → TablesAgree spelling opened s.tables image
    → TablesAgree spelling opened s.tables other → TablesAgree spelling m.made job.written other
    → Follows spelling s opened image m job → Follows spelling s opened other m job
