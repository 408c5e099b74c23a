use Rattle.std.proofs.Common.{◌≡◌, ◌==◌, drop}
use Rattle.std.specs.List.{list_any}
use Rattle.plain_store.proofs.installing.begins_there.Given as goal

-- none so far begins there
abbrev pub invariant-loop-table : goal.invariant-loop-table
invariant-loop-table l = list_any (λ i. i.first_page == l.page) (drop l.table-index l.tables) ≡ list_any (λ i. i.first_page == l.page) l.tables
