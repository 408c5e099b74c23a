-- Steps down a trie, and where they end.
use Rattle.std.specs.Prelude.{◌≡◌, ◌⊎◌, ℕ, ◌<◌, false, List, [], ◌∷◌, ◌++◌, length, get_or, take, Option, Some, None}
use Rattle.filter_model.specs.Leaves.{Leaf}
use Rattle.filter_model.specs.Trie.{END, is_reached, nodes, slots}
use Rattle.filter_trie.specs.declared.walk.Step.{Step}
use Rattle.filter_trie.specs.declared.walk.Step.TheVariants as step
use Rattle.filter_trie.specs.declared.walk.Walk.{Walk}
use Rattle.filter_trie.specs.declared.walk.Walk.TheVariants as walk

-- the slot that a walk ends at
abbrev pub slot_in : Walk → Option ℕ
slot_in walk.Miss = None
slot_in (walk.Leaf s) = Some s

-- node v is the prefix p, and slot s that of the path q
pub record IsNodeAt (ls : List Leaf) (v : ℕ) (p : List ℕ) : Type 0 where
  pub within : v < length (nodes ls)
  pub is : get_or (nodes ls) v [] ≡ p

pub record IsSlotAt (ls : List Leaf) (s : ℕ) (q : List ℕ) : Type 0 where
  pub within : s < length (slots ls)
  pub is : get_or (slots ls) s [] ≡ q

-- from node v by the letter c: no path goes on so, or it ends there, or a node stands there
abbrev pub IsStep : List Leaf → ℕ → ℕ → Step → Type 0
IsStep ls v c step.Miss = is_reached ls (get_or (nodes ls) v [] ++ c ∷ []) ≡ false
IsStep ls v c (step.Leaf s) = IsSlotAt ls s (get_or (nodes ls) v [] ++ c ∷ [])
IsStep ls v c (step.Child w) = IsNodeAt ls w (get_or (nodes ls) v [] ++ c ∷ [])

-- the leaf of this slot has so many first bytes of the key as its stub, and if it ends, all of them
abbrev pub ReachesLeaf : List Leaf → List ℕ → ℕ → ℕ → Type 0
ReachesLeaf ls key slot stub = IsSlotAt ls slot (take stub key) ⊎ ((stub ≡ length key) × IsSlotAt ls slot (key ++ END ∷ []))
