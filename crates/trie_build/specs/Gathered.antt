-- A node while it is gathered.
use Rattle.std.specs.Prelude.{◌≡◌, ℕ, suc, ◌≤◌, nat_le, nat_lt, cond, List, [], ◌∷◌, ◌++◌, length, get_or}
use Rattle.filter_model.specs.Nodes.{Node}
use Rattle.filter_model.specs.Trie.{END}
use Rattle.trie_levels.specs.declared.spans.Span.{Span}

-- the letter of a key's path behind its first n letters
abbrev pub letter_behind : List ℕ → ℕ → ℕ
letter_behind key n = cond (nat_lt n (length key)) (get_or key n 0) END

-- with the branch of a path that is the last to go by it
abbrev pub node_with : List ℕ → ℕ → Span → Node → Node
node_with key n s node = cond (nat_le s.closes (suc n)) (node ++ (letter_behind key n, nat_lt (suc n) s.len) ∷ []) node

-- where the key ends, it is the first branch, and a leaf
abbrev pub StandsAlone : List ℕ → ℕ → Span → Node → Type 0
StandsAlone key n s node = length key ≤ n → s.closes ≤ suc n → (node ≡ []) × (s.len ≤ suc n)
