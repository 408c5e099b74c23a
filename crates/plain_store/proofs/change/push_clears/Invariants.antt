use Rattle.std.proofs.Common.{◌≡◌, ◌++◌, drop, map}
use Rattle.range_model.specs.Sources.{Clears}
use Rattle.plain_store.specs.ChangeKinds.{change_of}
use Rattle.plain_store.proofs.change.push_clears.Given as goal

-- those that are made and those that are left
abbrev pub invariant-loop-range : goal.invariant-loop-range
invariant-loop-range l = map change_of l.list.items ++ map Clears (drop l.range-index l.ranges) ≡ map change_of l.initial.list.items ++ map Clears l.ranges
