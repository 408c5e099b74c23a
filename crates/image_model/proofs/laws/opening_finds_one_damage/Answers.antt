use Rattle.image_model.proofs.Opening.{log_at_its_page, ranges_at_the_body, rows_come_first, no_store_has_no_state, no_store_has_none, one_damage, state_has_none}
use Rattle.image_model.proofs.laws.opening_finds_one_damage.Goals as goal

pub returns-clause-one : goal.returns-clause-one
returns-clause-one c = one_damage

pub returns-clause-state : goal.returns-clause-state
returns-clause-state c = state_has_none

pub returns-clause-no_store : goal.returns-clause-no_store
returns-clause-no_store c = no_store_has_none

pub returns-clause-no_state : goal.returns-clause-no_state
returns-clause-no_state c = no_store_has_no_state

pub returns-clause-ranges : goal.returns-clause-ranges
returns-clause-ranges c = ranges_at_the_body

pub returns-clause-rows : goal.returns-clause-rows
returns-clause-rows c = rows_come_first

pub returns-clause-log : goal.returns-clause-log
returns-clause-log c = log_at_its_page
