use Rattle.std.proofs.Common.{◌≡◌, drop, nat_lt}
use Rattle.std.specs.List.{list_any}
use Rattle.plain_store.proofs.outputs.lies_deeper.Given as goal

-- none so far lies deeper
abbrev pub invariant-loop-table : goal.invariant-loop-table
invariant-loop-table l = list_any (λ t. nat_lt l.level t.level) (drop l.table-index l.tables) ≡ list_any (λ t. nat_lt l.level t.level) l.tables
