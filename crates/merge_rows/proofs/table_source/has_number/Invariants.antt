use Rattle.std.proofs.Common.{◌≡◌, drop}
use Rattle.std.specs.Prelude.{◌==◌}
use Rattle.std.specs.List.{list_any}
use Rattle.merge_rows.specs.Steps.{numbers}
use Rattle.merge_rows.proofs.table_source.has_number.Given as goal

-- no walk so far is over it
abbrev pub invariant-loop-walk : goal.invariant-loop-walk
invariant-loop-walk l = list_any (λ n. n == l.number) (numbers (drop l.walk-index l.walks)) ≡ list_any (λ n. n == l.number) (numbers l.walks)
