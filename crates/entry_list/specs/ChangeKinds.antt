-- The code's changes as the definitions see them.
use Rattle.range_model.specs.Sources as model
use Rattle.entry_list.specs.declared.kind.ChangeKind.{ChangeKind}
use Rattle.entry_list.specs.declared.kind.ChangeKind.TheVariants.{Sets, Clears}

abbrev pub change_of : ChangeKind → model.Change
change_of (Sets entry) = model.Sets entry
change_of (Clears range) = model.Clears range
