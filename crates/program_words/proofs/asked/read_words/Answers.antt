use Rattle.program_words.proofs.Unparsed.{asks_by_kind}
use Rattle.program_words.proofs.asked.read_words.Goals as goal

pub returns-in-Err : goal.returns-in-Err
returns-in-Err c = asks_by_kind _ _ c.unparsed.result c.in-Err.ensures.kinds c.unparsed.ensures
