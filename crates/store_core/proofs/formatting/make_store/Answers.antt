use Rattle.store_core.proofs.News.{log_then}
use Rattle.store_core.proofs.formatting.make_store.Goals as goal

pub returns-clause-crash : goal.returns-clause-crash
returns-clause-crash g c spelling tells =
    log_then spelling c.args.settings c.args.pages c.in_ok-start.field-0 c.format.result _ _ _ c.start.ensures.moves (c.in_ok-start.ensures.stands tells) c.format.ensures.moves (c.format.ensures.crash tells)
