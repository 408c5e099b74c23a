use Rattle.image_model.proofs.Opened.{image_opens, opened_has_none, opened_is_state, state_opens}
use Rattle.image_model.proofs.InOrder.{follows_as_it_stands}
use Rattle.image_model.proofs.laws.an_image_opens.Goals as goal

pub returns-clause-opens : goal.returns-clause-opens
returns-clause-opens c = image_opens

pub returns-clause-no_damage : goal.returns-clause-no_damage
returns-clause-no_damage c = opened_has_none

pub returns-clause-state_opens : goal.returns-clause-state_opens
returns-clause-state_opens c = state_opens

pub returns-clause-is_state : goal.returns-clause-is_state
returns-clause-is_state c = opened_is_state

pub returns-clause-follows : goal.returns-clause-follows
returns-clause-follows c = follows_as_it_stands
