-- What a place says of the trie, and what is found there, by the strings of its nodes and leaves.
use Rattle.std.specs.Prelude.{◌≡◌, ℕ, ◌+◌, ◌<◌, ◌≤◌, false, List, [], ◌∷◌, ◌++◌, length, map, get_or, Some, None}
use Rattle.filter_api.specs.Spellings.{MayBeTrie}
use Rattle.filter_model.specs.Leaves.{Filter, Leaf}
use Rattle.filter_model.specs.Nodes.{first_place, trie_of}
use Rattle.filter_model.specs.Trie.{END, is_reached, nodes, path, places, slots}
use Rattle.filter_model.specs.Valid.{IsLeafList}
use Rattle.filter_trie.specs.Places.{IsTaken, IsWithin, branch_number}
use Rattle.filter_trie.specs.Walks.{IsNodeAt, IsSlotAt}
use Rattle.filter_trie.specs.declared.place.Place.{Place}
use Rattle.trie_levels.specs.Tries.{HasTrie}
use Rattle.trie_model.specs.Rests.{first_leaf, leaves_below}
use Rattle.trie_model.specs.Halves.{branch_place, child_at, end_slot, next_place, prev_place, slot_at, whole}

-- where a branch stands is a place
abbrev pub PlacesAreWithin : Type 0
PlacesAreWithin = (i : Filter) (p : Place) → IsTaken i p → IsWithin i p

-- and its number is that of a branch of the trie
abbrev pub PlacesAreNumbers : Type 0
PlacesAreNumbers = (i : Filter) (p : Place) → MayBeTrie i.hash_bits i.real_bits i.cutoff i.leaves → IsTaken i p → branch_number i p < length (places i.leaves)

-- ---- what is found

-- the branch of number n leads to the string q
pub record IsPlaceAt (ls : List Leaf) (n : ℕ) (q : List ℕ) : Type 0 where
  pub within : n < length (places ls)
  pub is : get_or (places ls) n [] ≡ q

-- no path goes on from node v by a byte from c on and before d
abbrev pub NoneBetween : List Leaf → ℕ → ℕ → ℕ → Type 0
NoneBetween ls v c d = (e : ℕ) → c ≤ e → e < d → is_reached ls (get_or (nodes ls) v [] ++ e ∷ []) ≡ false

-- the branch of number n is that of node v by a byte d
pub record IsByteBranch (ls : List Leaf) (v d n : ℕ) : Type 0 where
  pub byte : d < 256
  pub place : IsPlaceAt ls n (get_or (nodes ls) v [] ++ d ∷ [])

-- what searches of node v find
pub record FindsAt (ls : List Leaf) (v : ℕ) : Type 0 where
  pub branch : (c n : ℕ) → Some n ≡ branch_place (whole (trie_of ls)) v c → IsPlaceAt ls n (get_or (nodes ls) v [] ++ c ∷ [])
  pub no_branch : (c : ℕ) → c ≤ END → None ≡ branch_place (whole (trie_of ls)) v c → is_reached ls (get_or (nodes ls) v [] ++ c ∷ []) ≡ false
  pub next : (c n : ℕ) → Some n ≡ next_place (whole (trie_of ls)) v c → (d : ℕ) × (c ≤ d) × IsByteBranch ls v d n × NoneBetween ls v c d
  pub no_next : (c : ℕ) → None ≡ next_place (whole (trie_of ls)) v c → NoneBetween ls v c 256
  pub prev : (c n : ℕ) → c ≤ 256 → Some n ≡ prev_place (whole (trie_of ls)) v c → (d : ℕ) × (d < c) × IsByteBranch ls v d n × NoneBetween ls v (d + 1) c
  pub no_prev : (c : ℕ) → c ≤ 256 → None ≡ prev_place (whole (trie_of ls)) v c → NoneBetween ls v 0 c
  pub end : (s : ℕ) → Some s ≡ end_slot (whole (trie_of ls)) v → IsSlotAt ls s (get_or (nodes ls) v [] ++ END ∷ [])
  pub no_end : None ≡ end_slot (whole (trie_of ls)) v → is_reached ls (get_or (nodes ls) v [] ++ END ∷ []) ≡ false

abbrev pub SearchesFind : Type 0
SearchesFind = (ls : List Leaf) (v : ℕ) → HasTrie ls → v < length (nodes ls) → FindsAt ls v

-- a branch leads to the node of its string, or to the slot of its leaf
pub record LeadsTo (ls : List Leaf) (n : ℕ) (q : List ℕ) : Type 0 where
  pub child : (w : ℕ) → Some w ≡ child_at (whole (trie_of ls)) n → IsNodeAt ls w q
  pub leaf : None ≡ child_at (whole (trie_of ls)) n → IsSlotAt ls (slot_at (whole (trie_of ls)) n) q

abbrev pub BranchesLead : Type 0
BranchesLead = (ls : List Leaf) (n : ℕ) (q : List ℕ) → HasTrie ls → IsPlaceAt ls n q → LeadsTo ls n q

-- ---- leaves in key order

-- a node's first branch begins with the node's least leaf, each further one where the one before ends, and the last one
-- ends with the node
pub record CountsAt (ls : List Leaf) (v : ℕ) : Type 0 where
  pub first : first_leaf ls (get_or (places ls) (first_place (trie_of ls) v) []) ≡ first_leaf ls (get_or (nodes ls) v [])
  pub next : (n : ℕ) → first_place (trie_of ls) v ≤ n → n + 1 < first_place (trie_of ls) (v + 1)
      → first_leaf ls (get_or (places ls) (n + 1) []) ≡ first_leaf ls (get_or (places ls) n []) + leaves_below ls (get_or (places ls) n [])
  pub last : (n : ℕ) → n + 1 ≡ first_place (trie_of ls) (v + 1)
      → first_leaf ls (get_or (places ls) n []) + leaves_below ls (get_or (places ls) n []) ≡ first_leaf ls (get_or (nodes ls) v []) + leaves_below ls (get_or (nodes ls) v [])

abbrev pub LeavesAreCounted : Type 0
LeavesAreCounted = (hash_bits real_bits : ℕ) (ls : List Leaf) (v : ℕ) → IsLeafList hash_bits real_bits ls → v < length (nodes ls) → CountsAt ls v

-- a slot's path has one leaf behind it: the leaf whose path it is
pub record IsOneLeaf (ls : List Leaf) (q : List ℕ) : Type 0 where
  pub count : leaves_below ls q ≡ 1
  pub path_is : get_or (map path ls) (first_leaf ls q) [] ≡ q

abbrev pub SlotsAreLeaves : Type 0
SlotsAreLeaves = (hash_bits real_bits : ℕ) (ls : List Leaf) (s : ℕ) → IsLeafList hash_bits real_bits ls → s < length (slots ls) → IsOneLeaf ls (get_or (slots ls) s [])
