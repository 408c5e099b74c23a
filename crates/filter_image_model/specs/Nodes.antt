-- The nodes that the sections spell, whether or not they are those of a trie. A node is the list of its branches; END
-- stands first, and keeps the bit that says whether a branch leads to a node.
use Rattle.std.specs.Prelude.{◌≡◌, ℕ, suc, ◌<◌, ◌==◌, Bool, true, false, cond, List, [], ◌∷◌, ◌++◌, map, take, drop, zip}
use Rattle.std.specs.List.{All, AllPairs}
use Rattle.filter_model.specs.Nodes.{Branch, Node}
use Rattle.filter_model.specs.Trie.{END}
use Rattle.trie_model.specs.Letters.{order_of}
use Rattle.filter_image_model.specs.Header.{Bytes, section_bytes, section}

-- ---- a dense node: a bit for END, and rows of 256 bits

-- the branches by the bytes from c on: those whose bit is set in the row of labels
abbrev pub branches_from : ℕ → List Bool → List Bool → Node
branches_from c [] children = []
branches_from c (here ∷ labels) [] = []
branches_from c (true ∷ labels) (child ∷ children) = (c, child) ∷ branches_from (suc c) labels children
branches_from c (false ∷ labels) (child ∷ children) = branches_from (suc c) labels children

abbrev pub dense_node : Bool → List Bool → List Bool → Node
dense_node ends labels children = cond ends ((END, false) ∷ []) [] ++ branches_from 0 labels children

-- row by row
abbrev pub dense_nodes : List Bool → List Bool → List Bool → List Node
dense_nodes [] labels children = []
dense_nodes (end ∷ ends) labels children =
    dense_node end (take 256 labels) (take 256 children) ∷ dense_nodes ends (drop 256 labels) (drop 256 children)

-- ---- sparse nodes: a label, a child's bit and an opening bit for each branch

-- what stands before the first opening bit, and the nodes from there on
abbrev pub cut_nodes : List Bool → List Branch → Node × List Node
cut_nodes [] bs = ([], [])
cut_nodes (x ∷ louds) [] = ([], [])
cut_nodes (true ∷ louds) (b ∷ bs) = let r = cut_nodes louds bs in ([], (b ∷ r.0) ∷ r.1)
cut_nodes (false ∷ louds) (b ∷ bs) = let r = cut_nodes louds bs in (b ∷ r.0, r.1)

-- a first label 255 of two or more is END
abbrev pub named : Node → Node
named [] = []
named (b ∷ []) = b ∷ []
named (b ∷ c ∷ n) = cond (b.0 == 255) (END, b.1) b ∷ c ∷ n

abbrev pub sparse_nodes : List ℕ → List Bool → List Bool → List Node
sparse_nodes labels children louds = map named (cut_nodes louds (zip labels children)).1

-- ---- the nodes of an image

unfoldable pub dense_in : Bytes → List Node
dense_in bytes = dense_nodes (section 2 bytes) (section 0 bytes) (section 1 bytes)

unfoldable pub sparse_in : Bytes → List Node
sparse_in bytes = sparse_nodes (section_bytes 3 bytes) (section 4 bytes) (section 5 bytes)

-- ---- nodes as they are read

-- A dense node: END, which leads to no node, and then bytes, which rise as a trie's letters do. (A sparse one is
-- `trie_laws`' IsNode.)
pub record IsDense (n : Node) : Type 0 where
  pub ends : Bool
  pub bytes : Node
  pub letters : All (λ (b : Branch). b.0 < END) bytes
  pub rising : AllPairs (λ (a b : Branch). order_of a.0 < order_of b.0) bytes
  pub is : n ≡ cond ends ((END, false) ∷ []) [] ++ bytes
