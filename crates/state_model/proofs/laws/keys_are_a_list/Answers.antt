use Rattle.state_model.proofs.SoundKeys.{key_list}
use Rattle.state_model.proofs.laws.keys_are_a_list.Goals as goal

pub returns : goal.returns
returns c = key_list
