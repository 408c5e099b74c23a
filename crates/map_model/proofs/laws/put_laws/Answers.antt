use Rattle.map_model.proofs.Maps.{put_here, put_elsewhere, put_rises}
use Rattle.map_model.proofs.laws.put_laws.Goals as goal

pub returns : goal.returns
returns c = record { here = put_here; elsewhere = put_elsewhere; rises = put_rises }
