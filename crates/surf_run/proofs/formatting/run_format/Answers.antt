use Rattle.surf_run.proofs.Formats.{done, refused}
use Rattle.surf_run.proofs.formatting.run_format.Goals as goal

pub returns-in-Ok-clause-formatted : goal.returns-in-Ok-clause-formatted
returns-in-Ok-clause-formatted g c tells output =
    done g.F.RangeFilter.spelling c.args.settings c.args.pages _ _ _ c.format.ensures.moves.beside (g.met.W.Outside.said_now _) (g.met.W.Outside.said_now _) c.say_formatted.ensures.moves
    (c.format.ensures.stays tells) c.say_formatted.result _ (c.in-Ok.ensures.crash tells) c.in-Ok.ensures.refused (c.in-Ok.ensures.there tells)
    (c.say_formatted.ensures.said output) (c.say_formatted.ensures.prefix output) c.say_formatted.ensures.ends

pub returns-in-Err-clause-formatted : goal.returns-in-Err-clause-formatted
returns-in-Err-clause-formatted g c tells output =
    refused g.F.RangeFilter.spelling c.args.settings c.args.pages _ _ _ c.format.ensures.moves.beside (g.met.W.Outside.said_now _) (g.met.W.Outside.said_now _) c.say_no_format.ensures.moves
    (c.format.ensures.stays tells) c.say_no_format.result c.in-Err.error (c.in-Err.ensures.crash tells) c.in-Err.ensures.refused (c.in-Err.ensures.there tells)
    (c.say_no_format.ensures.said output) (c.say_no_format.ensures.prefix output) c.say_no_format.ensures.ends
