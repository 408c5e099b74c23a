use Rattle.state_model.proofs.Searches.{key_searched, range_admitted}
use Rattle.state_model.proofs.laws.held_is_searched.Goals as goal

pub returns : goal.returns
returns c = record { key = key_searched; range = range_admitted }
