-- Lists of keys by which the definitions are shown, and their images.
use Rattle.std.specs.Prelude.{ℕ, List, [], ◌∷◌, ◌++◌, codes, replicate}
use Rattle.filter_model.specs.Leaves.{Leaf, leaves_of}

-- far, fast, s, top, toy
abbrev pub far_to_toy : List (List ℕ)
far_to_toy = codes "far" ∷ codes "fast" ∷ codes "s" ∷ codes "top" ∷ codes "toy" ∷ []

-- 61 and 61 FF
abbrev pub a_and_a_ff : List (List ℕ)
a_and_a_ff = (0x61 ∷ []) ∷ (0x61 ∷ 0xFF ∷ []) ∷ []

-- aa1 and ab1
abbrev pub aa1_ab1 : List (List ℕ)
aa1_ab1 = codes "aa1" ∷ codes "ab1" ∷ []

-- a and ab
abbrev pub a_ab : List (List ℕ)
a_ab = codes "a" ∷ codes "ab" ∷ []

-- leaves with 8 real bits
abbrev pub real_leaves : List (List ℕ) → List Leaf
real_leaves keys = leaves_of 0 8 keys

-- ---- images

-- that of a and ab, all sparse: the header, a FF 62, one child bit, and opening bits at a and at END
unfoldable pub a_ab_sparse : List ℕ
a_ab_sparse =
    0x53 ∷ 0x55 ∷ 0x52 ∷ 0x46 ∷ 1 ∷ 0 ∷ 0 ∷ 0
    ∷ 0 ∷ 0 ∷ 2 ∷ 0 ∷ 2 ∷ 0 ∷ 0 ∷ 0
    ∷ 0 ∷ 0 ∷ 0 ∷ 0 ∷ 0 ∷ 0 ∷ 0 ∷ 0
    ∷ 2 ∷ 0 ∷ 0 ∷ 0 ∷ 0 ∷ 0 ∷ 0 ∷ 0
    ∷ 3 ∷ 0 ∷ 0 ∷ 0 ∷ 0 ∷ 0 ∷ 0 ∷ 0
    ∷ 0x61 ∷ 0xFF ∷ 0x62 ∷ 1 ∷ 3 ∷ []

-- with the root dense: at 52 its branch a, at 84 that a leads to a node; then FF 62
unfoldable pub a_ab_root_dense : List ℕ
a_ab_root_dense =
    0x53 ∷ 0x55 ∷ 0x52 ∷ 0x46 ∷ 1 ∷ 0 ∷ 0 ∷ 0
    ∷ 1 ∷ 0 ∷ 2 ∷ 0 ∷ 2 ∷ 0 ∷ 0 ∷ 0
    ∷ 1 ∷ 0 ∷ 0 ∷ 0 ∷ 0 ∷ 0 ∷ 0 ∷ 0
    ∷ 1 ∷ 0 ∷ 0 ∷ 0 ∷ 0 ∷ 0 ∷ 0 ∷ 0
    ∷ 2 ∷ 0 ∷ 0 ∷ 0 ∷ 0 ∷ 0 ∷ 0 ∷ 0
    ∷ (replicate 12 0 ++ 2 ∷ replicate 19 0) ++ (replicate 12 0 ++ 2 ∷ replicate 19 0) ++ 0 ∷ 0xFF ∷ 0x62 ∷ 0 ∷ 1 ∷ []

-- all dense: at 52 a, at 84 b, at 116 that a leads to a node, at 168 that the second node has END
unfoldable pub a_ab_dense : List ℕ
a_ab_dense =
    0x53 ∷ 0x55 ∷ 0x52 ∷ 0x46 ∷ 1 ∷ 0 ∷ 0 ∷ 0
    ∷ 2 ∷ 0 ∷ 2 ∷ 0 ∷ 2 ∷ 0 ∷ 0 ∷ 0
    ∷ 2 ∷ 0 ∷ 0 ∷ 0 ∷ 0 ∷ 0 ∷ 0 ∷ 0
    ∷ (replicate 16 0
    ++ (replicate 12 0 ++ 2 ∷ replicate 19 0) ++ (replicate 12 0 ++ 4 ∷ replicate 19 0)
    ++ (replicate 12 0 ++ 2 ∷ replicate 19 0) ++ replicate 32 0
    ++ 2 ∷ [])

-- that of far, fast, s, top and toy with 8 real bits: the suffix of s, whose branch comes first, and that of fas third
unfoldable pub far_to_toy_sparse : List ℕ
far_to_toy_sparse =
    0x53 ∷ 0x55 ∷ 0x52 ∷ 0x46 ∷ 1 ∷ 0 ∷ 8 ∷ 0
    ∷ 0 ∷ 0 ∷ 3 ∷ 0 ∷ 5 ∷ 0 ∷ 0 ∷ 0
    ∷ 0 ∷ 0 ∷ 0 ∷ 0 ∷ 0 ∷ 0 ∷ 0 ∷ 0
    ∷ 5 ∷ 0 ∷ 0 ∷ 0 ∷ 0 ∷ 0 ∷ 0 ∷ 0
    ∷ 9 ∷ 0 ∷ 0 ∷ 0 ∷ 0 ∷ 0 ∷ 0 ∷ 0
    ∷ codes "fstaorspy" ++ 0x1D ∷ 0 ∷ 0xB9 ∷ 0 ∷ 0 ∷ 0 ∷ 0x74 ∷ 0 ∷ 0 ∷ []
