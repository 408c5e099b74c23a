use Rattle.table_model.proofs.Decided.{sound_or_damaged}
use Rattle.table_model.proofs.Sound.{filter_rules, one_filter_damage, sound_filter_has_none}
use Rattle.table_model.proofs.laws.a_filter_has_one_damage.Goals as goal

pub returns-clause-one : goal.returns-clause-one
returns-clause-one c = one_filter_damage

pub returns-clause-none : goal.returns-clause-none
returns-clause-none c = sound_filter_has_none

pub returns-clause-placed : goal.returns-clause-placed
returns-clause-placed c = filter_rules

pub returns-clause-one_of_two : goal.returns-clause-one_of_two
returns-clause-one_of_two c = sound_or_damaged
