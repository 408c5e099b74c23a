use Rattle.image_model.proofs.CheckedTables.{row_without_finding_is_table}
use Rattle.image_model.proofs.NoFindings.{no_finding_is_state}
use Rattle.image_model.proofs.laws.no_finding_is_state.Goals as goal

pub returns : goal.returns
returns c = record { state = no_finding_is_state; table = row_without_finding_is_table }
