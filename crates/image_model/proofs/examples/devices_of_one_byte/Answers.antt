use Rattle.std.proofs.Common.{refl}
use Rattle.std.proofs.lemmas.Bool.{eqb-false}
use Rattle.manifest_model.specs.Reading.{body_damage, early_fault}
use Rattle.manifest_model.specs.Slots.{body_room}
use Rattle.image_model.specs.Opening.{at_the_slots}
use Rattle.image_model.proofs.examples.devices_of_one_byte.Goals as goal

pub returns-clause-of_zeros : goal.returns-clause-of_zeros
returns-clause-of_zeros c = (eqb-false 0 1 refl, eqb-false 0 1 refl)

pub returns-clause-of_ones : goal.returns-clause-of_ones
unfolding body_damage early_fault body_room
returns-clause-of_ones c = λ spelling first_fault. at_the_slots refl
