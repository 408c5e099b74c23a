use Rattle.std.proofs.Common.{◌≡◌, ◌-◌, [], ◌∷◌, drop}
use Rattle.level_merge.specs.Outlines.{outlines}
use Rattle.state_model.specs.Merges.{first_over}
use Rattle.level_merge.proofs.choosing.level_over.Given as goal

-- the first of the levels that are left is the first of all
abbrev pub invariant-loop-level : goal.invariant-loop-level
invariant-loop-level g l = first_over (outlines l.tables) (drop (l.level - 1) (1 ∷ 2 ∷ 3 ∷ 4 ∷ 5 ∷ [])) ≡ first_over (outlines l.tables) (1 ∷ 2 ∷ 3 ∷ 4 ∷ 5 ∷ [])
