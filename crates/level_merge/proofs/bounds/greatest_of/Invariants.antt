use Rattle.std.proofs.Common.{◌≡◌, map, fold, drop}
use Rattle.level_merge.specs.Outlines.{outline_of}
use Rattle.state_model.specs.Merges.{greater_key, greatest_key}
use Rattle.level_merge.proofs.bounds.greatest_of.Given as goal

-- what is left goes on from the greatest so far
abbrev pub invariant-loop-number : goal.invariant-loop-number
invariant-loop-number g l = fold (λ key u. greater_key key (greatest_key u)) l.greatest (map (outline_of l.tables) (drop l.number-index l.rest))
    ≡ fold (λ key u. greater_key key (greatest_key u)) l.initial.greatest (map (outline_of l.tables) l.rest)
