use Rattle.state_model.proofs.SoundJobs.{works_sound, drop_sound}
use Rattle.state_model.proofs.laws.jobs_keep_sound.Goals as goal

pub returns-clause-work : goal.returns-clause-work
returns-clause-work c = works_sound

pub returns-clause-drop : goal.returns-clause-drop
returns-clause-drop c = drop_sound
