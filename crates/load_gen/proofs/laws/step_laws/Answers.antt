use Rattle.load_gen.proofs.Steps.{steps_counted, steps_prefix, steps_sound}
use Rattle.load_gen.proofs.laws.step_laws.Goals as goal

pub returns : goal.returns
returns c = record { count = steps_counted; prefix = steps_prefix; sound = steps_sound }
