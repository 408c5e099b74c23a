use Rattle.std.proofs.Common.{sym, subst}
use Rattle.filter_api.specs.Ranges.{IsRowInRange}
use Rattle.table_file.proofs.opening.open_table.Goals as goal

pub into_table-requires : goal.into_table-requires
into_table-requires g c = subst IsRowInRange (sym c.in_ok-index.ensures.row) c.in_ok-filter.ensures.range
