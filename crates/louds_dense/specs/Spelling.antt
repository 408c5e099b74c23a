-- The dense sections that spell the upper nodes of a trie.
use Rattle.std.specs.Prelude.{◌≡◌, ◌≤◌, ◌^◌, Bool, List, length}
use Rattle.std.specs.List.{AllByRecursion}
use Rattle.filter_image_model.specs.Nodes.{IsDense, dense_nodes}
use Rattle.filter_model.specs.Image.{dense_children, dense_ends, dense_labels}
use Rattle.filter_model.specs.Nodes.{Node}

-- the nodes that the sections spell
unfoldable pub nodes_in : List Bool → List Bool → List Bool → List Node
nodes_in labels children ends = dense_nodes ends labels children

-- the sections are those of the nodes, which have END and rising bytes
pub record IsSpelled (labels children ends : List Bool) (ns : List Node) : Type 0 where
  pub labels_are : labels ≡ dense_labels ns
  pub children_are : children ≡ dense_children ns
  pub ends_are : ends ≡ dense_ends ns
  pub nodes : AllByRecursion IsDense ns
  pub few : length ns ≤ 2 ^ 53
