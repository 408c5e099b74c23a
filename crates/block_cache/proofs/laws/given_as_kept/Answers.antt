use Rattle.block_cache.proofs.Gives.{given_as_kept}
use Rattle.block_cache.proofs.laws.given_as_kept.Goals as goal

pub returns : goal.returns
returns c = given_as_kept
