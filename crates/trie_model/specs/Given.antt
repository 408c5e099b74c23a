-- A node as the builders of halves are given it.
use Rattle.std.specs.Prelude.{◌≡◌, ℕ, ◌<◌, Bool, true, false, cond, List, [], ◌∷◌, ◌++◌, map, length}
use Rattle.std.specs.List.{AllPairs}
use Rattle.filter_model.specs.Nodes.{Node}
use Rattle.filter_model.specs.Trie.{END}
use Rattle.trie_model.specs.declared.parts.Branch.{Branch}

-- END where it is a branch, and then the branches by bytes
abbrev pub node_given : Bool → List Branch → Node
node_given end branches = cond end ((END, false) ∷ []) [] ++ map (λ (b : Branch). (b.byte, b.child)) branches

-- some branches, whose bytes rise
pub record AreRising (branches : List Branch) : Type 0 where
  pub some : 0 < length branches
  pub rising : AllPairs (λ (a b : Branch). a.byte < b.byte) branches
