-- The way from the root to a leaf, and the branches of the nodes on it.
use Rattle.std.specs.Prelude.{◌≡◌, ℕ, ◌+◌, ◌<◌, ◌≤◌, nat_lt, cond, List, [], ◌∷◌, ◌++◌, length, get_or, filter, map, take, Option, Some, None, MatchOption}
use Rattle.std.specs.Option.{option_map}
use Rattle.filter_iter.specs.declared.parts.Branch.{Branch}
use Rattle.filter_iter.specs.declared.parts.Lead.{Lead}
use Rattle.filter_iter.specs.declared.parts.Lead.TheVariants as lead
use Rattle.filter_iter.specs.declared.parts.Pass.{Pass}
use Rattle.filter_model.specs.Leaves.{Leaf}
use Rattle.filter_model.specs.Trie.{END, path}
use Rattle.filter_trie.specs.Walks.{IsNodeAt, IsSlotAt}
use Rattle.trie_model.specs.Halves.{Half, byte_at, child_at, end_slot, slot_at}
use Rattle.trie_model.specs.Rests.{first_leaf, leaves_below}

-- the letters of a way
abbrev pub letters_of : List Pass → List ℕ
letters_of way = map (λ (p : Pass). p.letter) way

-- and the bytes among them
abbrev pub bytes_of_way : List Pass → List ℕ
bytes_of_way way = filter (λ c. nat_lt c 256) (letters_of way)

-- a pass behind the letters p
pub record IsPassAt (ls : List Leaf) (p : List ℕ) (x : Pass) : Type 0 where
  pub node : IsNodeAt ls x.node p
  pub letter : x.letter ≤ END

-- each of a way's passes is behind the letters of those before
abbrev pub IsWay : List Leaf → List Pass → Type 0
IsWay ls way = (i : ℕ) (d : Pass) → i < length way → IsPassAt ls (take i (letters_of way)) (get_or way i d)

-- it is that of leaf n, whose slot this is
pub record IsWayTo (ls : List Leaf) (n slot : ℕ) (way : List Pass) : Type 0 where
  pub within : n < length ls
  pub nodes : IsWay ls way
  pub path_is : get_or (map path ls) n [] ≡ letters_of way
  pub slot_is : IsSlotAt ls slot (letters_of way)

-- the letters q lead there
abbrev pub LeadGoesTo : List Leaf → List ℕ → Lead → Type 0
LeadGoesTo ls q (lead.Node v) = IsNodeAt ls v q
LeadGoesTo ls q (lead.Leaf s) = IsSlotAt ls s q

-- so does the branch of number n
abbrev pub IsLeadAt : Half → ℕ → Lead → Type 0
IsLeadAt h n (lead.Node v) = Some v ≡ child_at h n
IsLeadAt h n (lead.Leaf s) = (None ≡ child_at h n) × (s ≡ slot_at h n)

-- the branch of number n
pub record IsBranchAt (h : Half) (n : ℕ) (b : Branch) : Type 0 where
  pub letter : b.letter ≡ byte_at h n
  pub leads : IsLeadAt h n b.lead

-- the branch by END to the leaf of a slot
abbrev pub branch_of_end : ℕ → Branch
branch_of_end slot = record { letter = END; lead = lead.Leaf slot }

-- node v's branch by END, if it has one
abbrev pub IsEndBranch : Half → ℕ → Option Branch → Type 0
IsEndBranch h v found = option_map branch_of_end (end_slot h v) ≡ found

-- the node p has this branch
pub record HasBranch (ls : List Leaf) (p : List ℕ) (b : Branch) : Type 0 where
  pub letter : b.letter ≤ END
  pub leads : LeadGoesTo ls (p ++ b.letter ∷ []) b.lead

-- how many leaves come before those whose paths begin with p, and before those behind these
abbrev pub leaves_to : List Leaf → List ℕ → ℕ
leaves_to ls p = first_leaf ls p + leaves_below ls p

-- how many come before those below p by a byte from c on, none of which there is from 256 on
abbrev pub leaves_before_byte : List Leaf → List ℕ → ℕ → ℕ
leaves_before_byte ls p c = cond (nat_lt c 256) (first_leaf ls (p ++ c ∷ [])) (leaves_to ls p)

-- the next branch, by a byte, begins where what comes before ends, and where there is none, p ends there
abbrev pub IsNextAt : List Leaf → List ℕ → ℕ → Option Branch → Type 0
IsNextAt ls p n found =
    MatchOption found (leaves_to ls p ≡ n) (λ b. HasBranch ls p b × (b.letter < END) × (first_leaf ls (p ++ b.letter ∷ []) ≡ n))

-- the branch before ends where what comes behind it begins, and where there is none, p begins there
abbrev pub IsPrevAt : List Leaf → List ℕ → ℕ → Option Branch → Type 0
IsPrevAt ls p n found =
    MatchOption found (first_leaf ls p ≡ n) (λ b. HasBranch ls p b × (leaves_to ls (p ++ b.letter ∷ []) ≡ n))
