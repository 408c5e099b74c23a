use Rattle.range_model.proofs.Shown.{merge_shows, merge_rises}
use Rattle.range_model.proofs.laws.merged_laws.Goals as goal

pub returns-clause-shows : goal.returns-clause-shows
returns-clause-shows c = merge_shows

pub returns-clause-rises : goal.returns-clause-rises
returns-clause-rises c = merge_rises
