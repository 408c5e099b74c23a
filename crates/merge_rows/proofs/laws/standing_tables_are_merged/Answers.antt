use Rattle.merge_rows.proofs.Standing.{whole}
use Rattle.merge_rows.proofs.laws.standing_tables_are_merged.Goals as goal

pub returns : goal.returns
returns c = λ spelling tables image which blocks memory low drops stand rises.
    whole c.standing_tables_are_read.ensures.blocks c.standing_tables_are_read.ensures.walks spelling tables image low which blocks memory drops stand rises
