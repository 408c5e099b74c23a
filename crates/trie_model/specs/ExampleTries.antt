-- Tries by which the definitions are shown.
use Rattle.std.specs.Prelude.{true, false, List, [], ◌∷◌, drop}
use Rattle.filter_model.specs.Nodes.{Node}
use Rattle.trie_model.specs.Halves.{Half}

-- the nodes of far, fas, s, top and toy: the root, f, t, fa and to
abbrev pub far_to_toy_nodes : List Node
far_to_toy_nodes =
    ((0x66, true) ∷ (0x73, false) ∷ (0x74, true) ∷ [])
    ∷ ((0x61, true) ∷ [])
    ∷ ((0x6F, true) ∷ [])
    ∷ ((0x72, false) ∷ (0x73, false) ∷ [])
    ∷ ((0x70, false) ∷ (0x79, false) ∷ [])
    ∷ []

-- the nodes of 61 and 61 FF: the root, and 61 with the branches END and FF
abbrev pub end_and_ff_nodes : List Node
end_and_ff_nodes = ((0x61, true) ∷ []) ∷ ((256, false) ∷ (0xFF, false) ∷ []) ∷ []

-- what follows the root of far, fas, s, top and toy
abbrev pub below_root : Half
below_root = record { before = record { nodes = 1; children = 2; slots = 1 }; nodes = drop 1 far_to_toy_nodes }
