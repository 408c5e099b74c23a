use Rattle.table_file.proofs.Written.{written_shown}
use Rattle.table_file.proofs.laws.written_parts_are_shown.Goals as goal

pub returns : goal.returns
returns c = written_shown
