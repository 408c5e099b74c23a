use Rattle.block_cache.proofs.Gives.{get_same, missed, get_count}
use Rattle.block_cache.proofs.laws.get_laws.Goals as goal

pub returns : goal.returns
returns c = record { same = get_same; missed = missed; count = get_count }
