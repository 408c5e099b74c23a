use Rattle.level_merge.proofs.Flushed.{flush_follows}
use Rattle.level_merge.proofs.OtherImages.{image_follows}
use Rattle.level_merge.proofs.laws.jobs_are_followed.Goals as goal

pub returns-clause-flush : goal.returns-clause-flush
returns-clause-flush c = flush_follows

pub returns-clause-image : goal.returns-clause-image
returns-clause-image c = image_follows c.standing_tables_are_read.ensures.blocks
