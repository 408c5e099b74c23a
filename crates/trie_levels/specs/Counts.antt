-- The nodes and the branches of each level of a trie.
use Rattle.std.specs.Prelude.{ℕ, List}

pub record Counts : Type 0 where
  pub nodes : List ℕ
  pub labels : List ℕ
