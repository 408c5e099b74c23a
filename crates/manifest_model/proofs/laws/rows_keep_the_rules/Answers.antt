use Rattle.manifest_model.proofs.NewVersions.{new_is_one}
use Rattle.manifest_model.proofs.Rows.{rows_keep, tables_fit}
use Rattle.manifest_model.proofs.laws.rows_keep_the_rules.Goals as goal

pub returns-clause-rules : goal.returns-clause-rules
returns-clause-rules c = rows_keep

pub returns-clause-fit : goal.returns-clause-fit
returns-clause-fit c = tables_fit

pub returns-clause-new : goal.returns-clause-new
returns-clause-new c = new_is_one
