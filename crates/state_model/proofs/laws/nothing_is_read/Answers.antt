use Rattle.state_model.proofs.Causes.{bare_get, bare_tables, found_bound, bare_bound, crossed_bound, crossed_tables}
use Rattle.state_model.proofs.laws.nothing_is_read.Goals as goal

pub returns : goal.returns
returns c = record { get_without_tables = bare_get; get_from_memory = found_bound; seek_without_tables = bare_bound; crossed_seek = crossed_bound; none_between_without_tables = bare_tables; none_between_crossed = crossed_tables }
