-- Nodes as the sparse sections have them.
use Rattle.std.specs.Prelude.{◌≡◌, ◌<◌, ◌≤◌, [], ◌∷◌, All}
use Rattle.filter_model.specs.Nodes.{Branch, Node}

-- END first and never alone, then bytes
abbrev pub IsNode : Node → Type 0
IsNode [] = ⊥
IsNode (a ∷ []) = a.0 < 256
IsNode (a ∷ b ∷ n) = (a.0 ≤ 256) × (a.0 ≡ 255 → ⊥) × All (λ (x : Branch). x.0 < 256) (b ∷ n)
