use Rattle.std.proofs.Common.{length}
use Rattle.outside.proofs.Endings.{take_takes}
use Rattle.outside.proofs.mem_calls.MemOutsideOutside.take.Goals as goal

pub returns-clause-taken : goal.returns-clause-taken
returns-clause-taken c = take_takes c.number_take.new.into (length c.args.into.now) _ _ _ c.requires c.number_take.ensures.pace c.number_take.ensures.ends c.number_take.ensures.bytes
