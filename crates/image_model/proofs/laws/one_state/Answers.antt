use Rattle.image_model.proofs.OnlyEntries.{state_has_entries}
use Rattle.image_model.proofs.Sound.{state_sound}
use Rattle.image_model.proofs.States.{maps_are_one, states_are_one}
use Rattle.image_model.proofs.laws.one_state.Goals as goal

pub returns-clause-state : goal.returns-clause-state
returns-clause-state c = states_are_one

pub returns-clause-map : goal.returns-clause-map
returns-clause-map c = maps_are_one

pub returns-clause-sound : goal.returns-clause-sound
returns-clause-sound c = state_sound

pub returns-clause-entries : goal.returns-clause-entries
returns-clause-entries c = state_has_entries
