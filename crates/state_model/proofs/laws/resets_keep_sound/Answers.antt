use Rattle.state_model.proofs.SoundResets.{settings_sound, pages_sound, settings_same, pages_same}
use Rattle.state_model.proofs.laws.resets_keep_sound.Goals as goal

pub returns-clause-settings : goal.returns-clause-settings
returns-clause-settings c = settings_sound

pub returns-clause-pages : goal.returns-clause-pages
returns-clause-pages c = pages_sound

pub returns-clause-same : goal.returns-clause-same
returns-clause-same c = (settings_same, pages_same)
