-- The sparse sections that spell a half of a trie.
use Rattle.std.specs.Prelude.{◌≡◌, ℕ, ◌<◌, ◌^◌, Bool, List, length}
use Rattle.std.specs.List.{All}
use Rattle.filter_image_model.specs.Nodes.{sparse_nodes}
use Rattle.filter_model.specs.Image.{sparse_children, sparse_labels, sparse_louds}
use Rattle.trie_laws.specs.Nodes.{IsTrieNode}
use Rattle.trie_model.specs.Halves.{Half}
use Rattle.trie_model.specs.declared.parts.Before.{Before}

-- the half that the sections spell
unfoldable pub half_in : Before → List ℕ → List Bool → List Bool → Half
half_in before labels children louds = record { before = before; nodes = sparse_nodes labels children louds }

-- each number of what stands before is below 2^62
pub record AreFew (before : Before) : Type 0 where
  pub nodes : before.nodes < 2 ^ 62
  pub children : before.children < 2 ^ 62
  pub slots : before.slots < 2 ^ 62

-- the sections are those of the half, and each of its nodes has the form of a trie's
pub record IsSpelled (before : Before) (labels : List ℕ) (children louds : List Bool) (h : Half) : Type 0 where
  pub before_is : before ≡ h.before
  pub labels_are : labels ≡ sparse_labels h.nodes
  pub children_are : children ≡ sparse_children h.nodes
  pub louds_are : louds ≡ sparse_louds h.nodes
  pub nodes : All IsTrieNode h.nodes
  pub few : AreFew before
  pub short : length labels < 2 ^ 62
