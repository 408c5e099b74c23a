use Rattle.state_model.proofs.Tied.{memory_told, read_told, damage_told, limit_told}
use Rattle.state_model.proofs.laws.causes_have_replies.Goals as goal

pub returns : goal.returns
returns c = record {
  memory = memory_told;
  read = read_told;
  damage = λ filter_bytes s after request reply damage. damage_told filter_bytes s after request reply damage;
  limit = λ filter_bytes s after request reply why. limit_told filter_bytes s after request reply why;
}
