use Rattle.outside.proofs.Endings.{say_some, say_moves, say_fails}
use Rattle.outside.proofs.mem_calls.MemOutsideOutside.say.Goals as goal

pub returns-clause-some : goal.returns-clause-some
returns-clause-some c = say_some c.args.from.now _ _ _ c.requires c.number_say.ensures.pace c.number_say.ensures.ends

pub returns-clause-moves : goal.returns-clause-moves
returns-clause-moves c = say_moves c.args.from.now _ _ _ c.number_say.ensures.clock c.number_say.ensures.ends

pub returns-clause-fails : goal.returns-clause-fails
returns-clause-fails c = say_fails c.args.from.now _ _ _ c.number_say.ensures.ends
