-- The key order on strings of letters: END comes before every byte.
use Rattle.std.specs.Prelude.{ℕ, suc, ◌==◌, nat_lt, Bool, false, cond, List, [], ◌∷◌}
use Rattle.filter_model.specs.Trie.{END}

-- where a letter stands in the order
abbrev pub order_of : ℕ → ℕ
order_of c = cond (c == END) 0 (suc c)

-- x comes before y by the first letter in which they differ; neither comes before the other where one begins the other
abbrev pub comes_before : List ℕ → List ℕ → Bool
comes_before [] y = false
comes_before (a ∷ x) [] = false
comes_before (a ∷ x) (b ∷ y) = cond (a == b) (comes_before x y) (nat_lt (order_of a) (order_of b))
