use Rattle.key_base.proofs.Prefixes.{closer_decides, rests_decide, shared_and_rest, rest_compares}
use Rattle.key_base.proofs.laws.shared_prefixes.Goals as goal

pub returns-clause-closer : goal.returns-clause-closer
returns-clause-closer c = closer_decides

pub returns-clause-rests : goal.returns-clause-rests
returns-clause-rests c = rests_decide

pub returns-clause-whole : goal.returns-clause-whole
returns-clause-whole c = shared_and_rest

pub returns-clause-spelled : goal.returns-clause-spelled
returns-clause-spelled c = rest_compares
