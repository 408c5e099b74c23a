use Rattle.std.proofs.Common.{◌≡◌, map, take}
use Rattle.std.specs.Prelude.{ℕ}
use Rattle.merge_rows.specs.Merges.{numbered, walk_at}
use Rattle.merge_rows.proofs.rows.walks_from.Given as goal

abbrev pub invariant-loop-number : goal.invariant-loop-number
invariant-loop-number g l =
    l.walks.items ≡ map (λ (number : ℕ). record { number = number; walk = walk_at (numbered l.tables.tables number) l.low }) (take l.number-index l.which)
