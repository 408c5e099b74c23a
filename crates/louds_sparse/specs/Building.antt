-- What a builder has so far.
use Rattle.std.specs.Prelude.{ℕ, Bool, List, [], ◌∷◌, ◌++◌, map}
use Rattle.filter_model.specs.Image.{label_of, opening}
use Rattle.filter_model.specs.Nodes.{Branch, Node}
use Rattle.trie_model.specs.Halves.{Half}

-- the half so far, and how many labels it may have
pub record HalfInRoom : Type 0 where
  pub half : Half
  pub limit : ℕ

abbrev pub with_node : Node → HalfInRoom → HalfInRoom
with_node n room = record { half = record { before = room.half.before; nodes = room.half.nodes ++ n ∷ [] }; limit = room.limit }

-- the sections so far, and how many labels they may have
pub record SectionsInRoom : Type 0 where
  pub labels : List ℕ
  pub children : List Bool
  pub louds : List Bool
  pub limit : ℕ

-- a branch behind them; the branches of a node behind them
abbrev pub with_branch : ℕ → Bool → Bool → SectionsInRoom → SectionsInRoom
with_branch label child first s =
    record { labels = s.labels ++ label ∷ []; children = s.children ++ child ∷ []; louds = s.louds ++ first ∷ []; limit = s.limit }

abbrev pub with_branches : Node → SectionsInRoom → SectionsInRoom
with_branches n s =
    record { labels = s.labels ++ map (λ (b : Branch). label_of b.0) n; children = s.children ++ map (λ (b : Branch). b.1) n; louds = s.louds ++ opening n; limit = s.limit }
