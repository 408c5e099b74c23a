-- The nodes of a trie: the form that each has, and its branches by stubs.
use Rattle.std.specs.Prelude.{◌≡◌, ℕ, ◌<◌, ◌≤◌, Bool, false, cond, not, ◌&&◌, ◌||◌, List, [], ◌∷◌, ◌++◌, length, map, filter}
use Rattle.std.specs.List.{All, AllPairs, list_any, range_with_len}
use Rattle.filter_model.specs.Laws.{AreByteStubs}
use Rattle.filter_model.specs.Leaves.{Leaf}
use Rattle.filter_model.specs.Nodes.{Branch, Node, trie_of}
use Rattle.filter_model.specs.Strings.{bytes_eq}
use Rattle.filter_model.specs.Trie.{END, branches, is_node}
use Rattle.trie_levels.specs.Tries.{HasTrie}
use Rattle.trie_model.specs.Letters.{order_of}
use Rattle.trie_laws.specs.Louds.{IsNode}

-- branches with rising letters, END the least of them, neither alone nor with a child
pub record IsTrieNode (n : Node) : Type 0 where
  pub filled : 0 < length n
  pub letters : All (λ (b : Branch). b.0 ≤ END) n
  pub rising : AllPairs (λ (a b : Branch). order_of a.0 < order_of b.0) n
  pub end_is_not_alone : length n ≡ 1 → All (λ (b : Branch). b.0 < END) n
  pub end_is_a_leaf : All (λ (b : Branch). b.0 ≡ END → b.1 ≡ false) n

abbrev pub TrieNodesHaveForm : Type 0
TrieNodesHaveForm = (ls : List Leaf) → HasTrie ls → All IsTrieNode (trie_of ls)

-- so they may stand in sparse sections
abbrev pub FormsAreSparse : Type 0
FormsAreSparse = (n : Node) → IsTrieNode n → IsNode n

-- some leaf ends with the stub p
abbrev pub ends_at : List Leaf → List ℕ → Bool
ends_at ls p = list_any (λ l. l.ends && bytes_eq l.stub p) ls

-- q leads to a node, or is the stub of a leaf that does not end
abbrev pub leads_on : List Leaf → List ℕ → Bool
leads_on ls q = is_node ls q || list_any (λ l. not l.ends && bytes_eq l.stub q) ls

-- the branches of p: END where a leaf ends at p, and then each byte that leads on from p
abbrev pub BranchesAreNodesAndStubs : Type 0
BranchesAreNodesAndStubs =
    (ls : List Leaf) (p : List ℕ) → AreByteStubs ls
    → branches ls p ≡ cond (ends_at ls p) ((p ++ END ∷ []) ∷ []) [] ++ filter (leads_on ls) (map (λ c. p ++ c ∷ []) (range_with_len 0 256))
