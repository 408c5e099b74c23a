-- Which pages of the device a state takes.
use Rattle.std.specs.Prelude.{List, ◌++◌, map}
use Rattle.extent_model.specs.Extents.{Extent}
use Rattle.state_model.specs.State.{State, written_by}
use Rattle.table_model.specs.Tables.{Table}

abbrev pub extent_of : Table → Extent
extent_of t = (t.first_page, t.pages)

-- the extents that are taken: those of the tables, of what a job has written, and of what is kept
abbrev pub taken : State → List Extent
taken s = map extent_of (s.tables ++ written_by s.job ++ s.kept)
