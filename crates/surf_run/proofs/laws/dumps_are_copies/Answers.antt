use Rattle.surf_run.proofs.PutsRead.{dumps_are_copies}
use Rattle.surf_run.proofs.laws.dumps_are_copies.Goals as goal

pub returns : goal.returns
returns c = dumps_are_copies
