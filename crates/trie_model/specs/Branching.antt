-- The branches of one node, each by its number there.
use Rattle.std.specs.Prelude.{ℕ, suc, ◌==◌, nat_le, nat_lt, Bool, cond, ◌&&◌, List, [], ◌∷◌, position, Option, Some, None}
use Rattle.filter_model.specs.Nodes.{Branch, Node}
use Rattle.filter_model.specs.Trie.{END}

-- the place behind the first one, or the first one itself
abbrev pub later : Bool → Option ℕ → Option ℕ
later here (Some i) = Some (suc i)
later here None = cond here (Some 0) None

-- the last place that passes
abbrev pub last_position : {X : Type 0} → (X → Bool) → List X → Option ℕ
last_position p [] = None
last_position p (x ∷ xs) = later (p x) (last_position p xs)

-- the branch by the letter c
abbrev pub branch_at : Node → ℕ → Option ℕ
branch_at n c = position (λ (b : Branch). b.0 == c) n

-- the first branch by a byte that is c or more
abbrev pub next_at : Node → ℕ → Option ℕ
next_at n c = position (λ (b : Branch). nat_le c b.0 && nat_lt b.0 END) n

-- the last branch by a byte less than c, where c is at most END
abbrev pub prev_at : Node → ℕ → Option ℕ
prev_at n c = last_position (λ (b : Branch). nat_lt b.0 c) n
