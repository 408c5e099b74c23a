use Rattle.std.proofs.Common.{length}
use Rattle.plain_store.proofs.answering.+play_by.Given as goal

abbrev pub decreases-play_by : goal.decreases-play_by
decreases-play_by g l = length l.requests.now
