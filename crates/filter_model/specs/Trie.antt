-- The trie of a list of leaves, by sets of prefixes.
use Rattle.std.specs.Prelude.{ℕ, zero, suc, ◌-◌, ◌*◌, nat_le, max, Bool, cond, not, List, [], ◌∷◌, ◌++◌, map, length, take, drop, filter, flat_map, sum}
use Rattle.std.specs.List.{list_any, range_with_len}
use Rattle.filter_model.specs.Strings.{is_prefix, extends}
use Rattle.filter_model.specs.Leaves.{Leaf}

-- END, the letter after a stub that ends; the other letters are the bytes
abbrev pub END : ℕ
END = 256

-- the letters, in the order of a node's branches
unfoldable pub letters : List ℕ
letters = END ∷ range_with_len 0 256

-- a leaf's path: its stub, and END where it ends
unfoldable pub path : Leaf → List ℕ
path l = l.stub ++ cond l.ends (END ∷ []) []

-- the node of which the leaf is a branch, its path without the last letter: its stub where it ends, else the stub without
-- its last byte
abbrev pub parent : Leaf → List ℕ
parent l = cond l.ends l.stub (take (length l.stub - 1) l.stub)

-- some path goes on after p
unfoldable pub is_node : List Leaf → List ℕ → Bool
is_node ls p = list_any (λ l. extends p (path l)) ls

-- some path begins with p
unfoldable pub is_reached : List Leaf → List ℕ → Bool
is_reached ls p = list_any (λ l. is_prefix p (path l)) ls

-- the branches of p, each as the string that it leads to
unfoldable pub branches : List Leaf → List ℕ → List (List ℕ)
branches ls p = filter (is_reached ls) (map (λ c. p ++ c ∷ []) letters)

-- the nodes of a level: the root, and then the branches of the level above that go on
unfoldable pub level : List Leaf → ℕ → List (List ℕ)
level ls zero = [] ∷ []
level ls (suc n) = filter (is_node ls) (flat_map (branches ls) (level ls n))

-- the nodes of the first n levels, in level order
unfoldable pub nodes_to : List Leaf → ℕ → List (List ℕ)
nodes_to ls zero = []
nodes_to ls (suc n) = nodes_to ls n ++ level ls n

-- how many levels of nodes there are
unfoldable pub height : List Leaf → ℕ
height [] = 0
height (l ∷ ls) = max (length (path l)) (height ls)

-- all nodes, level by level
unfoldable pub nodes : List Leaf → List (List ℕ)
nodes ls = nodes_to ls (height ls)

-- all branches in the order of their nodes
unfoldable pub places : List Leaf → List (List ℕ)
places ls = flat_map (branches ls) (nodes ls)

-- the branches that are leaves, each as its leaf's path
unfoldable pub slots : List Leaf → List (List ℕ)
slots ls = filter (λ q. not (is_node ls q)) (places ls)

-- how many nodes each level has
unfoldable pub level_nodes : List Leaf → List ℕ
level_nodes ls = map (λ n. length (level ls n)) (range_with_len 0 (height ls))

-- how many branches the nodes of each level have
unfoldable pub level_labels : List Leaf → List ℕ
level_labels ls = map (λ n. length (flat_map (branches ls) (level ls n))) (range_with_len 0 (height ls))

-- the levels below c may be dense: their bits, times the ratio, are at most those of the others
abbrev pub may_be_dense : ℕ → List ℕ → List ℕ → ℕ → Bool
may_be_dense ratio nodes labels c = nat_le (513 * sum (take c nodes) * ratio) (10 * sum (drop c labels))

-- the largest c, from n down, for which the levels below c may be dense
abbrev pub cutoff_from : ℕ → ℕ → List ℕ → List ℕ → ℕ
cutoff_from zero ratio nodes labels = 0
cutoff_from (suc n) ratio nodes labels = cond (may_be_dense ratio nodes labels (suc n)) (suc n) (cutoff_from n ratio nodes labels)

-- the cutoff: how many levels are dense
abbrev pub cutoff_of : ℕ → List ℕ → List ℕ → ℕ
cutoff_of ratio nodes labels = cutoff_from (length nodes) ratio nodes labels
