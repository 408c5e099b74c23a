use Rattle.range_model.proofs.Sources.{source_says}
use Rattle.range_model.proofs.SameSource.{sets_alone, source_again, source_has_bounds}
use Rattle.range_model.proofs.Sound.{source_is, changes_say}
use Rattle.range_model.proofs.ChangedMaps.{map_says, source_keeps_map}
use Rattle.range_model.proofs.laws.source_laws.Goals as goal

pub returns-clause-says : goal.returns-clause-says
returns-clause-says c = source_says

pub returns-clause-sound : goal.returns-clause-sound
returns-clause-sound c = source_is

pub returns-clause-changes : goal.returns-clause-changes
returns-clause-changes c = changes_say

pub returns-clause-map : goal.returns-clause-map
returns-clause-map c = map_says

pub returns-clause-keeps : goal.returns-clause-keeps
returns-clause-keeps c = source_keeps_map

pub returns-clause-bounds : goal.returns-clause-bounds
returns-clause-bounds c = source_has_bounds

pub returns-clause-sets : goal.returns-clause-sets
returns-clause-sets c = sets_alone

pub returns-clause-again : goal.returns-clause-again
returns-clause-again c = source_again
