use Rattle.disk_trait.proofs.Images.{window_overwritten, window_kept}
use Rattle.disk_trait.proofs.laws.image_laws.Goals as goal

pub returns-clause-reads_back : goal.returns-clause-reads_back
returns-clause-reads_back c = window_overwritten

pub returns-clause-reads_elsewhere : goal.returns-clause-reads_elsewhere
returns-clause-reads_elsewhere c = λ at n old new from size apart torn. window_kept at n old new from size apart torn
