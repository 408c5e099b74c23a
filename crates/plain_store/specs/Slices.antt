-- The code's ways of merging as the definitions see them.
use Rattle.state_model.specs.State.{State}
use Rattle.table_model.specs.Tables.{FilterBytes}
use Rattle.state_model.specs.Play.{merged, sliced}
use Rattle.plain_store.specs.declared.answering.Merge.{Merge}
use Rattle.plain_store.specs.declared.answering.Merge.TheVariants.{Whole, Slices}

abbrev pub merge_as : FilterBytes → Merge → State → State
merge_as filter_bytes Whole s = merged filter_bytes s
merge_as filter_bytes (Slices blocks) s = sliced filter_bytes blocks s
