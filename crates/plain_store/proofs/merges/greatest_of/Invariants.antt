use Rattle.std.proofs.Common.{◌≡◌, fold, drop}
use Rattle.state_model.specs.Merges.{greater_key, greatest_key}
use Rattle.plain_store.proofs.merges.greatest_of.Given as goal

-- what is left goes on from the greatest so far
abbrev pub invariant-loop-table : goal.invariant-loop-table
invariant-loop-table l = fold (λ key u. greater_key key (greatest_key u)) l.greatest (drop l.table-index l.rest) ≡ fold (λ key u. greater_key key (greatest_key u)) l.initial.greatest l.rest
