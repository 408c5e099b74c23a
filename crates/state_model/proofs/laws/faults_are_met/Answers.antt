use Rattle.state_model.proofs.Causes.{estimate_answered, explain_answered, put_reads_none, del_reads_none, flush_reads_none, others_write_none}
use Rattle.state_model.proofs.FaultsMet.{get_lasts}
use Rattle.state_model.proofs.laws.faults_are_met.Goals as goal

pub returns : goal.returns
returns c = record {
  get_takes_none = get_lasts;
  estimate_is_answered = estimate_answered;
  explain_is_answered = explain_answered;
  put_reads_nothing = put_reads_none;
  del_reads_nothing = del_reads_none;
  flush_reads_nothing = flush_reads_none;
  others_write_nothing = others_write_none;
}
