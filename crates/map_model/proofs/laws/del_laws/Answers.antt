use Rattle.map_model.proofs.Maps.{del_here, del_elsewhere, del_rises}
use Rattle.map_model.proofs.laws.del_laws.Goals as goal

pub returns : goal.returns
returns c = record { here = del_here; elsewhere = del_elsewhere; rises = del_rises }
