-- Images by which the definitions are shown.
use Rattle.std.specs.Prelude.{ℕ, true, false, List, [], ◌∷◌, ◌++◌, set, take, codes}
use Rattle.filter_model.specs.Leaves.{Leaf}
use Rattle.filter_model.specs.Examples.{a_ab_sparse}
use Rattle.filter_image_model.specs.Header.{Bytes}

-- with other bytes at some places
abbrev pub with_bytes : List (ℕ × ℕ) → Bytes → Bytes
with_bytes [] bytes = bytes
with_bytes ((place, byte) ∷ more) bytes = with_bytes more (set bytes place byte)

-- a with 8 hash bits
unfoldable pub a_with_hash : Bytes
a_with_hash =
    0x53 ∷ 0x55 ∷ 0x52 ∷ 0x46 ∷ 1 ∷ 8 ∷ 0 ∷ 0
    ∷ 0 ∷ 0 ∷ 1 ∷ 0 ∷ 1 ∷ 0 ∷ 0 ∷ 0
    ∷ 0 ∷ 0 ∷ 0 ∷ 0 ∷ 0 ∷ 0 ∷ 0 ∷ 0
    ∷ 1 ∷ 0 ∷ 0 ∷ 0 ∷ 0 ∷ 0 ∷ 0 ∷ 0
    ∷ 1 ∷ 0 ∷ 0 ∷ 0 ∷ 0 ∷ 0 ∷ 0 ∷ 0
    ∷ 0x61 ∷ 0 ∷ 1 ∷ 0x8C ∷ []

-- a, ab and ac with 8 real bits
unfoldable pub a_ab_ac_with_real : Bytes
a_ab_ac_with_real =
    0x53 ∷ 0x55 ∷ 0x52 ∷ 0x46 ∷ 1 ∷ 0 ∷ 8 ∷ 0
    ∷ 0 ∷ 0 ∷ 2 ∷ 0 ∷ 3 ∷ 0 ∷ 0 ∷ 0
    ∷ 0 ∷ 0 ∷ 0 ∷ 0 ∷ 0 ∷ 0 ∷ 0 ∷ 0
    ∷ 2 ∷ 0 ∷ 0 ∷ 0 ∷ 0 ∷ 0 ∷ 0 ∷ 0
    ∷ 4 ∷ 0 ∷ 0 ∷ 0 ∷ 0 ∷ 0 ∷ 0 ∷ 0
    ∷ 0x61 ∷ 0xFF ∷ 0x62 ∷ 0x63 ∷ 1 ∷ 3 ∷ 0 ∷ 0 ∷ 0 ∷ []

-- no list: behind a stand a mark that leads to a node, and b; behind the mark c and d
unfoldable pub mark_leads_on : Bytes
mark_leads_on =
    0x53 ∷ 0x55 ∷ 0x52 ∷ 0x46 ∷ 1 ∷ 0 ∷ 0 ∷ 0
    ∷ 0 ∷ 0 ∷ 3 ∷ 0 ∷ 3 ∷ 0 ∷ 0 ∷ 0
    ∷ 0 ∷ 0 ∷ 0 ∷ 0 ∷ 0 ∷ 0 ∷ 0 ∷ 0
    ∷ 3 ∷ 0 ∷ 0 ∷ 0 ∷ 0 ∷ 0 ∷ 0 ∷ 0
    ∷ 5 ∷ 0 ∷ 0 ∷ 0 ∷ 0 ∷ 0 ∷ 0 ∷ 0
    ∷ 0x61 ∷ 0xFF ∷ 0x62 ∷ 0x63 ∷ 0x64 ∷ 3 ∷ 0x0B ∷ []

-- no filter's list: ab alone
unfoldable pub ab_alone : Bytes
ab_alone = take 40 (with_bytes ((12, 1) ∷ (32, 2) ∷ []) a_ab_sparse) ++ 0x61 ∷ 0x62 ∷ 1 ∷ 3 ∷ []

-- no filter's list: zebra alone
unfoldable pub zebra_alone : Bytes
zebra_alone =
    0x53 ∷ 0x55 ∷ 0x52 ∷ 0x46 ∷ 1 ∷ 0 ∷ 0 ∷ 0
    ∷ 0 ∷ 0 ∷ 5 ∷ 0 ∷ 1 ∷ 0 ∷ 0 ∷ 0
    ∷ 0 ∷ 0 ∷ 0 ∷ 0 ∷ 0 ∷ 0 ∷ 0 ∷ 0
    ∷ 5 ∷ 0 ∷ 0 ∷ 0 ∷ 0 ∷ 0 ∷ 0 ∷ 0
    ∷ 5 ∷ 0 ∷ 0 ∷ 0 ∷ 0 ∷ 0 ∷ 0 ∷ 0
    ∷ 0x7A ∷ 0x65 ∷ 0x62 ∷ 0x72 ∷ 0x61 ∷ 0x0F ∷ 0x1F ∷ []

-- a leaf without suffix
abbrev pub plain : List ℕ → Leaf
plain stub = record { stub = stub; ends = false; hash = 0; real = 0 }

abbrev pub a_leaf : Leaf
a_leaf = record { stub = codes "a"; ends = true; hash = 0; real = 0 }

-- a and ab
abbrev pub a_and_ab_leaves : List Leaf
a_and_ab_leaves = a_leaf ∷ plain (codes "ab") ∷ []
