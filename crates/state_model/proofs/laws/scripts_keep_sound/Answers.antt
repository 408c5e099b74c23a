use Rattle.state_model.specs.PlayLaws.{AnyState}
use Rattle.state_model.specs.SoundLaws.{Ever}
use Rattle.state_model.proofs.SoundScripts.{script_sound, first_lines_sound, answered_sound}
use Rattle.state_model.proofs.laws.scripts_keep_sound.Goals as goal

pub returns : goal.returns
returns c = record {
  script = λ filter_bytes. script_sound Ever filter_bytes AnyState;
  first_lines = λ filter_bytes. first_lines_sound Ever filter_bytes AnyState;
  answered = λ filter_bytes. answered_sound Ever filter_bytes AnyState;
}
