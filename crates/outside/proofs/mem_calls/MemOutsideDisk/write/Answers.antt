use Rattle.std.proofs.Common.{length}
use Rattle.outside.specs.contracts.mem_outside.MemOutside.{the_view}
use Rattle.outside.proofs.Sessions.{lift_write}
use Rattle.outside.proofs.mem_calls.MemOutsideDisk.write.Goals as goal

pub returns-clause-moves : goal.returns-clause-moves
returns-clause-moves c = rw (← c.self.view_is) (lift_write c.args.at (length c.args.from.now) (the_view c.self.inside) c.write.new.self c.self.invariant.clock c.write.ensures.moves)
