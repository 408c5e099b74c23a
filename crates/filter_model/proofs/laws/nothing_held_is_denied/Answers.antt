use Rattle.filter_model.proofs.Stubs.{no_key_is_denied}
use Rattle.filter_model.proofs.Tallies.{no_held_range_is_denied}
use Rattle.filter_model.proofs.laws.nothing_held_is_denied.Goals as goal

pub returns : goal.returns
returns c = record { keys = no_key_is_denied; ranges = no_held_range_is_denied }
