-- The way to the leaf of a number.
use Rattle.std.specs.Prelude.{◌≡◌, ℕ, ◌+◌, ◌<◌, ◌≤◌, List, [], ◌∷◌, ◌++◌, get_or, length, map, MatchOption, Option}
use Rattle.filter_api.specs.Spellings.{MayBeTrie}
use Rattle.filter_iter.specs.Borders.{IsBorder, leaves_at}
use Rattle.filter_iter.specs.declared.parts.Border.{Border}
use Rattle.filter_iter.specs.declared.parts.Step.{Step}
use Rattle.filter_iter.specs.declared.parts.Step.TheVariants as step
use Rattle.filter_model.specs.Leaves.{Filter, Leaf}
use Rattle.filter_model.specs.Trie.{END, height as height_of, nodes, path}
use Rattle.filter_trie.specs.Walks.{IsNodeAt, IsSlotAt}
use Rattle.trie_model.specs.Rests.{first_leaf, leaves_below}

-- a border stands at a node, that of some letters: so many leaves come before it as before these
pub record StandsAtNode (i : Filter) (b : Border) (depth levels : ℕ) : Type 0 where
  pub stands : MayBeTrie i.hash_bits i.real_bits i.cutoff i.leaves
  pub height : levels ≡ height_of i.leaves
  pub node : b.node < length (nodes i.leaves)
  pub level : depth ≡ length (get_or (nodes i.leaves) b.node [])
  pub border : IsBorder i.leaves depth b
  pub before : leaves_at i.leaves depth b ≡ first_leaf i.leaves (get_or (nodes i.leaves) b.node [])

-- leaf n is one of those whose paths begin with p
abbrev pub IsLeafBelow : List Leaf → List ℕ → ℕ → Type 0
IsLeafBelow ls p n = (first_leaf ls p ≤ n) × (n < first_leaf ls p + leaves_below ls p)

-- not more than n leaves come before p with this byte behind it, and more before the next
abbrev pub IsLastFound : List Leaf → List ℕ → ℕ → ℕ → Type 0
IsLastFound ls p n byte = (byte < 256) × (first_leaf ls (p ++ byte ∷ []) ≤ n) × (byte < 255 → n < first_leaf ls (p ++ (byte + 1) ∷ []))

-- the last such byte, or none where more leaves come already before byte 0
abbrev pub IsLastByte : List Leaf → List ℕ → ℕ → Option ℕ → Type 0
IsLastByte ls p n found =
    MatchOption found (n < first_leaf ls (p ++ 0 ∷ [])) (IsLastFound ls p n)

-- from p leaf n ends, or has one byte more and is the leaf of a slot, or goes on from the node at a border
abbrev pub IsStepTo : List Leaf → List ℕ → ℕ → Step → Type 0
IsStepTo ls p n (step.Ends slot) = IsSlotAt ls slot (p ++ END ∷ []) × (get_or (map path ls) n [] ≡ p ++ END ∷ [])
IsStepTo ls p n (step.Leaf byte slot) = (byte < 256) × IsSlotAt ls slot (p ++ byte ∷ []) × (get_or (map path ls) n [] ≡ p ++ byte ∷ [])
IsStepTo ls p n (step.Node byte b) =
    (byte < 256) × IsNodeAt ls b.node (p ++ byte ∷ []) × IsBorder ls (length p + 1) b × (leaves_at ls (length p + 1) b ≡ first_leaf ls (p ++ byte ∷ [])) × IsLeafBelow ls (p ++ byte ∷ []) n
