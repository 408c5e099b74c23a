use Rattle.image_model.proofs.NewStores.{new_store_ready, new_store_stands}
use Rattle.image_model.proofs.laws.a_new_store_stands.Goals as goal

pub returns-clause-stands : goal.returns-clause-stands
returns-clause-stands c = new_store_stands

pub returns-clause-is_ready : goal.returns-clause-is_ready
returns-clause-is_ready c = new_store_ready
