-- Where branches stand among those of the sparse half.
use Rattle.std.specs.Prelude.{◌≡◌, ℕ, ◌+◌, ◌<◌, ◌≤◌, List, [], ◌∷◌, ◌++◌, get_or, length, IfSome, Option}
use Rattle.filter_iter.specs.CursorPath.{HasBranch}
use Rattle.filter_iter.specs.declared.parts.Branch.{Branch}
use Rattle.filter_iter.specs.declared.parts.Mark.{Mark}
use Rattle.filter_iter.specs.declared.parts.Pass.{Pass}
use Rattle.filter_iter.specs.declared.parts.Spot.{Spot}
use Rattle.filter_model.specs.Leaves.{Filter, Leaf}
use Rattle.filter_model.specs.Nodes.{IsBranch, all, first_place, trie_of}
use Rattle.filter_model.specs.Trie.{nodes}
use Rattle.filter_trie.specs.Parts.{lower, upper}
use Rattle.filter_trie.specs.Places.{branch_number, trie as trie_in}
use Rattle.filter_trie.specs.declared.place.Place.TheVariants as in_half
use Rattle.trie_model.specs.Halves.{first_below}
use Rattle.trie_model.specs.Rests.{first_leaf}

-- the first node whose branch stands at a place of the sparse half or later
abbrev pub below_place : Filter → ℕ → ℕ
below_place i place = first_below (trie_in i) (branch_number i (in_half.Sparse place))

-- a branch stands there, before where the spot ends, and the spot's count is that of the place
pub record IsTakenSpot (i : Filter) (s : Spot) : Type 0 where
  pub taken : s.place < s.end
  pub within : s.end ≤ length (all (lower i.cutoff i.leaves))
  pub below : s.below ≡ below_place i s.place

-- node v's branches stand from there on, to where the spot ends
pub record BeginsNode (i : Filter) (v : ℕ) (s : Spot) : Type 0 where
  pub sparse : length (upper i.cutoff i.leaves) ≤ v
  pub begin : branch_number i (in_half.Sparse s.place) ≡ first_place (trie_of i.leaves) v
  pub end : branch_number i (in_half.Sparse s.end) ≡ first_place (trie_of i.leaves) (v + 1)
  pub spot : IsTakenSpot i s

-- its branch by the letter c stands there
pub record IsSpotOf (i : Filter) (v c : ℕ) (s : Spot) : Type 0 where
  pub sparse : length (upper i.cutoff i.leaves) ≤ v
  pub branch : IsBranch (trie_of i.leaves) v c (branch_number i (in_half.Sparse s.place))
  pub end : branch_number i (in_half.Sparse s.end) ≡ first_place (trie_of i.leaves) (v + 1)
  pub spot : IsTakenSpot i s

-- a node's branches begin there
pub record IsMark (i : Filter) (m : Mark) : Type 0 where
  pub sparse : length (upper i.cutoff i.leaves) ≤ m.node
  pub begin : branch_number i (in_half.Sparse m.place) ≡ first_place (trie_of i.leaves) m.node
  pub below : m.below ≡ below_place i m.place

-- if the spot is known, it is that one
abbrev pub IsSpotIfKnown : Filter → ℕ → ℕ → Option Spot → Type 0
IsSpotIfKnown i v c spot = IfSome spot (IsSpotOf i v c)

abbrev pub HasSpot : Filter → Pass → Type 0
HasSpot i x = IsSpotIfKnown i x.node x.letter x.spot

-- node v's first branch
pub record IsFirstBranch (ls : List Leaf) (v : ℕ) (b : Branch) : Type 0 where
  pub branch : HasBranch ls (get_or (nodes ls) v []) b
  pub first : first_leaf ls (get_or (nodes ls) v [] ++ b.letter ∷ []) ≡ first_leaf ls (get_or (nodes ls) v [])
