use Rattle.surf_run.proofs.Independence.{of_the_map}
use Rattle.surf_run.proofs.laws.replies_are_of_the_map.Goals as goal

pub returns : goal.returns
returns c = of_the_map
