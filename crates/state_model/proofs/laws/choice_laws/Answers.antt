use Rattle.state_model.proofs.Choices.{chosen_some, chosen_output, chosen_part, job_part}
use Rattle.state_model.proofs.laws.choice_laws.Goals as goal

pub returns : goal.returns
returns c = record { some = chosen_some; output = chosen_output; part = chosen_part; job_part = job_part }
