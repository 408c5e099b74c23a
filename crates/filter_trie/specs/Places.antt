-- Places of a trie over both halves. The trie is one list of nodes, and a place the number of a branch among all of them.
use Rattle.std.specs.Prelude.{◌≡◌, ℕ, ◌+◌, ◌<◌, ◌≤◌, ◌⊎◌, true, is_some, List, [], get_or, length}
use Rattle.filter_model.specs.Leaves.{Filter}
use Rattle.filter_model.specs.Image.{has_letter}
use Rattle.filter_model.specs.Nodes.{all, trie_of}
use Rattle.filter_model.specs.Trie.{END, places}
use Rattle.filter_trie.specs.Parts.{lower, upper}
use Rattle.filter_trie.specs.declared.place.Place.{Place}
use Rattle.filter_trie.specs.declared.place.Place.TheVariants as place
use Rattle.louds_dense.specs.Places as dense
use Rattle.louds_sparse.specs.declared.lead.Placed.{Placed}
use Rattle.trie_model.specs.Halves.{Half, begin_of, child_at, first_below, node_at, slot_at, whole}

-- the trie
abbrev pub trie : Filter → Half
trie i = whole (trie_of i.leaves)

-- how many branches stand before a place: the number of the branch there
abbrev pub branch_number : Filter → Place → ℕ
branch_number i (place.Dense p) = dense.branches_before (upper i.cutoff i.leaves) p
branch_number i (place.Sparse p) = length (all (upper i.cutoff i.leaves)) + p

-- a place, or the one behind the last of its half
abbrev pub IsWithin : Filter → Place → Type 0
IsWithin i (place.Dense p) = p ≤ dense.places_in (upper i.cutoff i.leaves)
IsWithin i (place.Sparse p) = p ≤ length (all (lower i.cutoff i.leaves))

-- a branch stands there
abbrev pub IsTaken : Filter → Place → Type 0
IsTaken i (place.Dense p) = dense.IsTaken (upper i.cutoff i.leaves) p
IsTaken i (place.Sparse p) = p < length (all (lower i.cutoff i.leaves))

-- node v begins with the branch of this number, or with END and then that branch
pub record BeginsAt (h : Half) (v n : ℕ) : Type 0 where
  pub number : (n ≡ begin_of h v) ⊎ ((has_letter (node_at h v) END ≡ true) × (n ≡ begin_of h v + 1))
  pub below : first_below h n ≡ first_below h (begin_of h v)

-- the string that the branch at a place leads to
abbrev pub string_at : Filter → Place → List ℕ
string_at i p = get_or (places i.leaves) (branch_number i p) []

-- what is said of a branch of the sparse half is so of the one at its place
pub record StandsAt (i : Filter) (at : Placed) : Type 0 where
  pub taken : IsTaken i (place.Sparse at.place)
  pub slots : at.slots ≡ slot_at (trie i) (branch_number i (place.Sparse at.place))
  pub below : at.below ≡ first_below (trie i) (branch_number i (place.Sparse at.place))
  pub leads : at.leads ≡ is_some (child_at (trie i) (branch_number i (place.Sparse at.place)))
