use Rattle.std.proofs.Common.{◌≡◌, fold, drop, map}
use Rattle.range_model.specs.ChangedMaps.{map_changed_by, map_of_changes}
use Rattle.plain_store.specs.ChangeKinds.{change_of}
use Rattle.plain_store.proofs.state.State.map.Given as goal

-- what is left goes into the map so far
abbrev pub invariant-loop-change : goal.invariant-loop-change
invariant-loop-change l = fold map_changed_by l.map (map change_of (drop l.change-index l.change-items)) ≡ map_of_changes (map change_of l.change-items)
