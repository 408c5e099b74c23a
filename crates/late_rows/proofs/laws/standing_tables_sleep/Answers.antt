use Rattle.std.proofs.Common.{false}
use Rattle.late_rows.proofs.Standing.{sleep_well}
use Rattle.late_rows.proofs.laws.standing_tables_sleep.Goals as goal

pub returns : goal.returns
returns c = λ spelling tables image which asleep blocks memory low many stand rises before.
    let merge = c.standing_tables_are_merged.ensures spelling tables image which blocks memory low false stand rises in
    record {
      sound = record {
        merge = merge.sound;
        asleep = sleep_well c.standing_tables_are_read.ensures.blocks c.standing_tables_are_read.ensures.walks spelling tables image low which asleep blocks many stand before;
      };
      rows = merge.rows;
    }
