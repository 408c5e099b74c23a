use Rattle.std.proofs.Common.{◌≡◌, fold, drop}
use Rattle.state_model.specs.Merges.{lesser_key, least_key}
use Rattle.plain_store.proofs.merges.least_of.Given as goal

-- what is left goes on from the least so far
abbrev pub invariant-loop-table : goal.invariant-loop-table
invariant-loop-table l = fold (λ key u. lesser_key key (least_key u)) l.least (drop l.table-index l.rest) ≡ fold (λ key u. lesser_key key (least_key u)) l.initial.least l.rest
