-- A border on a level of a trie, and where a bound leads.
use Rattle.std.specs.Prelude.{◌≡◌, ℕ, ◌+◌, ◌-◌, ◌*◌, ◌^◌, ◌<◌, ◌≤◌, Bool, true, false, cond, not, ◌&&◌, ◌||◌, nat_lt, nat_le, IfSome, MatchOption, Option, List, [], ◌∷◌, ◌++◌, length, get_or, map, take, drop, Some, None}
use Rattle.std.specs.Option.{option_map}
use Rattle.filter_model.specs.Image.{in_slots}
use Rattle.filter_model.specs.Leaves.{Leaf}
use Rattle.filter_model.specs.Strings.{bits}
use Rattle.filter_model.specs.Trie.{END, height, is_reached, nodes, nodes_to}
use Rattle.filter_iter.specs.Counts.{below_first}
use Rattle.filter_iter.specs.declared.parts.Border.{Border}
use Rattle.filter_iter.specs.declared.parts.Descent.{Descent}
use Rattle.filter_iter.specs.declared.parts.Reached.{Reached}
use Rattle.filter_iter.specs.declared.parts.Turn.{Turn}
use Rattle.filter_iter.specs.declared.parts.Turn.TheVariants as turn
use Rattle.filter_trie.specs.Walks.{IsNodeAt, IsSlotAt}
use Rattle.suffix_bits.specs.Slots.{leaf_suffix}
use Rattle.trie_model.specs.Halves.{Half, byte_at, child_at, first_below, slot_at}
use Rattle.trie_model.specs.Rests.{first_leaf}
use Rattle.trie_model.specs.Walks.{slot_of_key}

-- its node is of this level, or the one behind it; on each level above, all leaves were counted but those that come behind
pub record IsBorder (ls : List Leaf) (level : ℕ) (b : Border) : Type 0 where
  pub high : level ≤ height ls
  pub order : length (nodes_to ls level) ≤ b.node
  pub within : b.node ≤ length (nodes ls)
  pub counted : level * length ls ≤ b.sum + below_first ls b.node

-- how many leaves come before a border: what was counted, and what stands below the nodes before it, once for each of all
-- leaves and each level above too often
abbrev pub leaves_at : List Leaf → ℕ → Border → ℕ
leaves_at ls level b = b.sum + below_first ls b.node - level * length ls

-- the letters q, the last of which is the one by which it turns, lead nowhere, to a leaf, or to the node at the border
abbrev pub IsTurn : List Leaf → List ℕ → Border → Turn → Type 0
IsTurn ls q b turn.Nowhere = is_reached ls q ≡ false
IsTurn ls q b (turn.Leaf slot) = IsSlotAt ls slot q
IsTurn ls q b turn.Node = IsNodeAt ls b.node q

-- the letters of the leaf that a bound reaches
abbrev pub reached_path : List ℕ → Reached → List ℕ
reached_path bound r = take r.stub bound ++ cond r.ends (END ∷ []) []

-- the leaf is the one that a bound reaches
pub record IsReached (ls : List Leaf) (bound : List ℕ) (leaf : Option Reached) : Type 0 where
  pub slot : option_map (λ r. r.slot) leaf ≡ slot_of_key ls bound
  pub path : IfSome leaf (λ r. IsSlotAt ls r.slot (reached_path bound r))

-- the letters q lead to the leaf that is reached, or nowhere
abbrev pub LeadsToReached : List Leaf → List ℕ → Option Reached → Type 0
LeadsToReached ls q leaf = MatchOption leaf (is_reached ls q ≡ false) (λ r. IsSlotAt ls r.slot q)

-- a bound leads to the border's node, by its first letters
pub record LeadsOn (ls : List Leaf) (bound : List ℕ) (level : ℕ) (b : Border) : Type 0 where
  pub read : level ≤ length bound
  pub node : IsNodeAt ls b.node (take level bound)
  pub before : leaves_at ls level b ≡ first_leaf ls (take level bound)

-- or has left the trie
pub record HasLeft (ls : List Leaf) (bound : List ℕ) (level : ℕ) (d : Descent) : Type 0 where
  pub before : leaves_at ls level d.border ≡ first_leaf ls bound
  pub reached : IsReached ls bound d.leaf

-- a step by the last of the letters q: as many leaves come before the border as before q, and where it leaves the trie, q leads
-- to the leaf that is reached, or nowhere
pub record IsStepBy (ls : List Leaf) (q : List ℕ) (level : ℕ) (d : Descent) : Type 0 where
  pub before : leaves_at ls level d.border ≡ first_leaf ls q
  pub left : d.leads ≡ false → LeadsToReached ls q d.leaf

-- the bound was followed down to a level
pub record IsDescent (ls : List Leaf) (bound : List ℕ) (level : ℕ) (d : Descent) : Type 0 where
  pub border : IsBorder ls level d.border
  pub on : d.leads ≡ true → LeadsOn ls bound level d.border
  pub left : d.leads ≡ false → HasLeft ls bound level d

-- two bounds were followed to one node, so that what was counted differs as much as the leaves that come before them
pub record HaveMet (ls : List Leaf) (lo hi : List ℕ) (low high : Descent) : Type 0 where
  pub apart : high.border.sum + first_leaf ls lo ≡ low.border.sum + first_leaf ls hi
  pub low_leaf : IsReached ls lo low.leaf
  pub high_leaf : IsReached ls hi high.leaf
  pub low_room : low.border.sum < 2 ^ 63
  pub high_room : high.border.sum < 2 ^ 63

-- where the branch at a place leads, if it is by the byte c
abbrev pub IsTurnAt : Half → ℕ → ℕ → Turn → Type 0
IsTurnAt h place c turn.Nowhere = byte_at h place ≡ c → ⊥
IsTurnAt h place c (turn.Leaf slot) = (byte_at h place ≡ c) × (None ≡ child_at h place) × (slot ≡ slot_at h place)
IsTurnAt h place c turn.Node = (byte_at h place ≡ c) × (Some (first_below h place) ≡ child_at h place)

-- the real bits of the leaf of a slot
abbrev pub real_at : List Leaf → ℕ → ℕ
real_at ls slot = (get_or (map leaf_suffix (in_slots ls)) slot (0, 0)).1

-- the leaf that a bound reaches is past it, and the least string that fits it is at or below it: by its real bits, and
-- those of the bound behind its stub
abbrev pub reached_past : ℕ → List Leaf → List ℕ → Reached → Bool
reached_past real_bits ls bound r = not r.ends && nat_lt (real_at ls r.slot) (bits real_bits (drop r.stub bound))

abbrev pub reached_begun : ℕ → List Leaf → List ℕ → Reached → Bool
reached_begun real_bits ls bound r = r.ends || nat_le (real_at ls r.slot) (bits real_bits (drop r.stub bound))
