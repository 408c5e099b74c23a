-- The strings of a list that begin with a prefix: where the first one stands, and what follows the prefix in each. Of the
-- paths of a trie in key order these are the leaves below a node or a branch.
use Rattle.std.specs.Prelude.{ℕ, ◌+◌, ◌==◌, nat_lt, cond, List, [], ◌∷◌, map, length}
use Rattle.filter_model.specs.Leaves.{Leaf}
use Rattle.filter_model.specs.Trie.{path}
use Rattle.trie_model.specs.Letters.{order_of}

-- what follows c in the strings that begin with c
abbrev pub tails : ℕ → List (List ℕ) → List (List ℕ)
tails c [] = []
tails c ([] ∷ xs) = tails c xs
tails c ((a ∷ x) ∷ xs) = cond (a == c) (x ∷ tails c xs) (tails c xs)

-- what follows p in the strings that begin with p
abbrev pub rests : List ℕ → List (List ℕ) → List (List ℕ)
rests [] xs = xs
rests (c ∷ p) xs = rests p (tails c xs)

-- how many strings begin with a letter that comes before c
abbrev pub ahead : ℕ → List (List ℕ) → ℕ
ahead c [] = 0
ahead c ([] ∷ xs) = ahead c xs
ahead c ((a ∷ x) ∷ xs) = cond (nat_lt (order_of a) (order_of c)) 1 0 + ahead c xs

-- in a list in key order, the number of the first string that begins with p
abbrev pub start : List ℕ → List (List ℕ) → ℕ
start [] xs = 0
start (c ∷ p) xs = ahead c xs + start p (tails c xs)

-- the number of the least leaf whose path begins with p, and how many paths do
abbrev pub first_leaf : List Leaf → List ℕ → ℕ
first_leaf ls p = start p (map path ls)

abbrev pub leaves_below : List Leaf → List ℕ → ℕ
leaves_below ls p = length (rests p (map path ls))
