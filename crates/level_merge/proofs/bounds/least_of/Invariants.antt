use Rattle.std.proofs.Common.{◌≡◌, map, fold, drop}
use Rattle.level_merge.specs.Outlines.{outline_of}
use Rattle.state_model.specs.Merges.{lesser_key, least_key}
use Rattle.level_merge.proofs.bounds.least_of.Given as goal

-- what is left goes on from the least so far
abbrev pub invariant-loop-number : goal.invariant-loop-number
invariant-loop-number g l = fold (λ key u. lesser_key key (least_key u)) l.least (map (outline_of l.tables) (drop l.number-index l.rest))
    ≡ fold (λ key u. lesser_key key (least_key u)) l.initial.least (map (outline_of l.tables) l.rest)
