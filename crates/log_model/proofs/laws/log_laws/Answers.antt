use Rattle.log_model.proofs.Ends.{one_list, one_fault, not_both}
use Rattle.log_model.proofs.Logs.{log_kept}
use Rattle.log_model.proofs.Readings.{spells_or_breaks}
use Rattle.log_model.proofs.laws.log_laws.Goals as goal

pub returns-clause-reading : goal.returns-clause-reading
returns-clause-reading c = record { one_list = one_list; one_fault = one_fault; not_both = not_both }

pub returns-clause-elsewhere : goal.returns-clause-elsewhere
returns-clause-elsewhere c = log_kept

pub returns-clause-one_of_two : goal.returns-clause-one_of_two
returns-clause-one_of_two c = spells_or_breaks
