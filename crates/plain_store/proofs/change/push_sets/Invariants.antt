use Rattle.std.proofs.Common.{◌≡◌, ◌++◌, drop, map}
use Rattle.range_model.specs.Sources.{Sets}
use Rattle.plain_store.specs.ChangeKinds.{change_of}
use Rattle.plain_store.proofs.change.push_sets.Given as goal

-- those that are made and those that are left
abbrev pub invariant-loop-entry : goal.invariant-loop-entry
invariant-loop-entry l = map change_of l.list.items ++ map Sets (drop l.entry-index l.entries) ≡ map change_of l.initial.list.items ++ map Sets l.entries
