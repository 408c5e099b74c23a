use Rattle.fst_run.proofs.BuiltMaps.{served}
use Rattle.fst_run.proofs.laws.built_maps_are_served.Goals as goal

pub returns : goal.returns
returns c = served c.a_body_is_read_again.ensures.law
