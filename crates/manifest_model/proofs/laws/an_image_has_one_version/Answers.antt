use Rattle.manifest_model.proofs.Held.{held_format, held_is_read, read_is_held}
use Rattle.manifest_model.proofs.Versions.{found, greater_in_use, no_damage, no_store, one_version}
use Rattle.manifest_model.proofs.laws.an_image_has_one_version.Goals as goal

pub returns-clause-read : goal.returns-clause-read
returns-clause-read c = held_is_read

pub returns-clause-format : goal.returns-clause-format
returns-clause-format c = held_format

pub returns-clause-held : goal.returns-clause-held
returns-clause-held c = read_is_held

pub returns-clause-one : goal.returns-clause-one
returns-clause-one c = one_version

pub returns-clause-greater : goal.returns-clause-greater
returns-clause-greater c = greater_in_use

pub returns-clause-no_store : goal.returns-clause-no_store
returns-clause-no_store c = no_store

pub returns-clause-no_damage : goal.returns-clause-no_damage
returns-clause-no_damage c = no_damage

pub returns-clause-found : goal.returns-clause-found
returns-clause-found c = found
