use Rattle.block_cache.proofs.Gives.{keep_here, keep_elsewhere, keep_stays, keep_count}
use Rattle.block_cache.proofs.laws.keep_laws.Goals as goal

pub returns : goal.returns
returns c = record {
  here = keep_here;
  elsewhere = keep_elsewhere;
  stays = keep_stays;
  count = keep_count;
}
