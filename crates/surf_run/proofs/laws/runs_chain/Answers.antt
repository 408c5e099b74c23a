use Rattle.surf_run.proofs.Chaining.{runs_chain}
use Rattle.surf_run.proofs.laws.runs_chain.Goals as goal

pub returns : goal.returns
returns g c = runs_chain g.W.Disk.world g.W.Disk.tells g.W.Outside.tells_input g.W.Outside.tells_output _ g.F.RangeFilter.first_fault
