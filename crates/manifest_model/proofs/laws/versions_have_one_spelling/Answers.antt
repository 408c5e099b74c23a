use Rattle.manifest_model.proofs.VersionsRead.{body_again}
use Rattle.manifest_model.proofs.VersionsWritten.{body_written}
use Rattle.manifest_model.proofs.laws.versions_have_one_spelling.Goals as goal

pub returns-clause-again : goal.returns-clause-again
returns-clause-again c = body_again

pub returns-clause-written : goal.returns-clause-written
returns-clause-written c = body_written
