use Rattle.state_model.proofs.Unanswered.{step_answered, step_map, write_step, quit_step, bad_step}
use Rattle.state_model.proofs.laws.steps_are_answers.Goals as goal

pub returns : goal.returns
returns c = record { line = step_answered; map = step_map; failed_write = write_step; quit = quit_step; bad_line = bad_step }
