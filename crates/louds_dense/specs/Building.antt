-- What a builder has so far.
use Rattle.std.specs.Prelude.{ℕ, Bool, false, List, [], ◌∷◌, ◌++◌, map}
use Rattle.std.specs.List.{range_with_len}
use Rattle.filter_model.specs.Image.{has_child, has_letter}
use Rattle.filter_model.specs.Nodes.{Node}

-- the nodes so far, and how many there may be
pub record NodesInRoom : Type 0 where
  pub nodes : List Node
  pub limit : ℕ

abbrev pub with_node : Node → NodesInRoom → NodesInRoom
with_node n room = record { nodes = room.nodes ++ n ∷ []; limit = room.limit }

-- the sections so far, and how many nodes they may have
pub record SectionsInRoom : Type 0 where
  pub labels : List Bool
  pub children : List Bool
  pub ends : List Bool
  pub limit : ℕ

-- the bits of a byte behind them
abbrev pub with_byte : Bool → Bool → SectionsInRoom → SectionsInRoom
with_byte label child s = record { labels = s.labels ++ label ∷ []; children = s.children ++ child ∷ []; ends = s.ends; limit = s.limit }

-- the bits of bytes that are no branches
abbrev pub no_branches : ℕ → List Bool
no_branches count = map (λ (c : ℕ). false) (range_with_len 0 count)

abbrev pub with_gap : ℕ → SectionsInRoom → SectionsInRoom
with_gap count s = record { labels = s.labels ++ no_branches count; children = s.children ++ no_branches count; ends = s.ends; limit = s.limit }

-- a node's bit for END
abbrev pub with_end : Bool → SectionsInRoom → SectionsInRoom
with_end end s = record { labels = s.labels; children = s.children; ends = s.ends ++ end ∷ []; limit = s.limit }

-- the bits of a node's first `count` bytes behind them
abbrev pub with_byte_bits : ℕ → Node → SectionsInRoom → SectionsInRoom
with_byte_bits count n s =
    record { labels = s.labels ++ map (has_letter n) (range_with_len 0 count); children = s.children ++ map (has_child n) (range_with_len 0 count); ends = s.ends; limit = s.limit }
