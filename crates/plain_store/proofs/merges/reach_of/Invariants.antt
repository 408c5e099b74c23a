use Rattle.std.proofs.Common.{◌≡◌, fold, drop}
use Rattle.range_model.specs.Reach.{reach}
use Rattle.state_model.specs.Merges.{greater_key, reach_of}
use Rattle.plain_store.proofs.merges.reach_of.Given as goal

-- what is left goes on from the greatest end so far
abbrev pub invariant-loop-table : goal.invariant-loop-table
invariant-loop-table l = fold (λ key u. greater_key key (reach u.ranges)) l.end (drop l.table-index l.tables) ≡ reach_of l.tables
