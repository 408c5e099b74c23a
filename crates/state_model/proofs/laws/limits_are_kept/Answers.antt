use Rattle.state_model.proofs.SoundKeys.{too_many, full_log, low_page}
use Rattle.state_model.proofs.MostTables.{over_tables, below_tables}
use Rattle.state_model.proofs.laws.limits_are_kept.Goals as goal

pub returns : goal.returns
returns c = record { tables = too_many; log = full_log; first_page = low_page; flush_over = over_tables; flush_below = below_tables }
