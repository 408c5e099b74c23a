use Rattle.load_gen.proofs.Summing.{summary_live, summary_sum, summary_step}
use Rattle.load_gen.proofs.laws.summary_laws.Goals as goal

pub returns : goal.returns
returns c = record { live = summary_live; sum = summary_sum; step = summary_step }
