-- The changes of a log: how much of the log area they fill, and which of them it takes. A change that is asked for may have a
-- long value, which no log takes.
use Rattle.entry_model.specs.Entries.{IsEntry}
use Rattle.range_model.specs.Ranges.{IsDeletedRange, HasBounds}
use Rattle.range_model.specs.Sources.{Change, Sets, Clears}
pub use Rattle.log_model.specs.Changes.{recorded, filled_by, need_of, gap_after, IsLoggedChange}

-- a change within its limits
abbrev pub IsChange : Change → Type 0
IsChange (Sets entry) = IsEntry entry
IsChange (Clears range) = IsDeletedRange range × HasBounds range
