-- What the places of a dense half say of its nodes as one list, where a place is the number of a branch among all of them.
use Rattle.std.specs.Prelude.{◌≡◌, ℕ, ◌<◌, ◌≤◌, ◌%◌, List, length, Some}
use Rattle.std.specs.List.{All}
use Rattle.std.specs.Option.{option_map}
use Rattle.filter_image_model.specs.Nodes.{IsDense}
use Rattle.filter_model.specs.Nodes.{Node, all}
use Rattle.louds_dense.specs.Places.{IsTaken, branch_place, branches_before, child_at, end_slot, next_place, places_in, prev_place}
use Rattle.trie_model.specs.Halves as list

-- What is found by a byte is what the list has, the next branch and the one before too: a branch of it, which leads where
-- it leads there.
pub record ArePlacesOf (ns : List Node) : Type 0 where
  pub branch : (v c : ℕ) → v < length ns → c < 256 → option_map (branches_before ns) (branch_place ns v c) ≡ list.branch_place (list.whole ns) v c
  pub next : (v c : ℕ) → v < length ns → c ≤ 256 → option_map (branches_before ns) (next_place ns v c) ≡ list.next_place (list.whole ns) v c
  pub prev : (v c : ℕ) → v < length ns → c ≤ 256 → option_map (branches_before ns) (prev_place ns v c) ≡ list.prev_place (list.whole ns) v c
  pub branch_taken : (v c p : ℕ) → v < length ns → c < 256 → Some p ≡ branch_place ns v c → IsTaken ns p
  pub next_taken : (v c p : ℕ) → v < length ns → c ≤ 256 → Some p ≡ next_place ns v c → IsTaken ns p
  pub prev_taken : (v c p : ℕ) → v < length ns → c ≤ 256 → Some p ≡ prev_place ns v c → IsTaken ns p
  pub number : (p : ℕ) → IsTaken ns p → branches_before ns p < length (all ns)
  pub child : (p : ℕ) → IsTaken ns p → child_at ns p ≡ list.child_at (list.whole ns) (branches_before ns p)
  pub byte : (p : ℕ) → IsTaken ns p → p % 256 ≡ list.byte_at (list.whole ns) (branches_before ns p)
  pub end : (v : ℕ) → v < length ns → end_slot ns v ≡ list.end_slot (list.whole ns) v
  pub order : (p q : ℕ) → p ≤ q → q ≤ places_in ns → branches_before ns p ≤ branches_before ns q

abbrev pub PlacesAreOfBranches : Type 0
PlacesAreOfBranches = (ns : List Node) → All IsDense ns → ArePlacesOf ns
