-- The code's changes as the definitions see them.
use Rattle.range_model.specs.Sources as model
use Rattle.plain_store.specs.declared.change.Change.{Change}
use Rattle.plain_store.specs.declared.change.Change.TheVariants.{Sets, Clears}

abbrev pub change_of : Change → model.Change
change_of (Sets entry) = model.Sets entry
change_of (Clears range) = model.Clears range
