use Rattle.state_model.proofs.Installs.{install_keeps}
use Rattle.state_model.proofs.laws.install_laws.Goals as goal

pub returns : goal.returns
returns c = record { install = λ filter_bytes s job sound is done. install_keeps filter_bytes s job sound is done.all_written }
