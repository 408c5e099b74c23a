use Rattle.outside.specs.contracts.mem_outside.MemOutside.{the_view}
use Rattle.disk_trait.proofs.Calls.{on_ok_one}
use Rattle.outside.proofs.Sessions.{lift_sync, lift_durable}
use Rattle.outside.proofs.mem_calls.MemOutsideDisk.sync.Goals as goal

pub returns-clause-durable : goal.returns-clause-durable
returns-clause-durable c = on_ok_one _ _ c.sync.result (lift_durable (record (the_view c.self.inside) { disk = c.sync.new.self })) c.sync.ensures.durable

pub returns-clause-moves : goal.returns-clause-moves
returns-clause-moves c = rw (← c.self.view_is) (lift_sync (the_view c.self.inside) c.sync.new.self c.self.invariant.clock c.sync.ensures.moves)
