use Rattle.std.proofs.Common.{◌≡◌, ◌+◌, drop, sum_by}
use Rattle.state_model.specs.Bounds as model
use Rattle.filter_model.specs.Answers.{tally}
use Rattle.plain_store.proofs.bounds.estimate.Given as goal

-- what is counted so far and what the tables that are left count
abbrev pub invariant-loop-table : goal.invariant-loop-table
invariant-loop-table g l = l.about + sum_by (λ t. tally t.settings.real_bits (model.table_leaves t) l.lo l.hi) (drop l.table-index l.table-items) ≡ l.initial.about + sum_by (λ t. tally t.settings.real_bits (model.table_leaves t) l.lo l.hi) l.table-items
