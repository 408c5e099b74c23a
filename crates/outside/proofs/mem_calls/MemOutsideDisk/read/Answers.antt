use Rattle.outside.specs.contracts.mem_outside.MemOutside.{the_view}
use Rattle.outside.proofs.Sessions.{lift_read}
use Rattle.outside.proofs.mem_calls.MemOutsideDisk.read.Goals as goal

pub returns-clause-moves : goal.returns-clause-moves
returns-clause-moves c = rw (← c.self.view_is) (lift_read 1 (the_view c.self.inside) c.read.new.self c.self.invariant.clock c.read.ensures.moves)
