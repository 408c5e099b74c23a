-- Leaves that end, by their slots.
use Rattle.std.specs.Prelude.{ℕ, suc, ◌+◌, ◌==◌, ◌&&◌, nat_lt, not, cond, Bool, false, length, slice_index, slice_index_or, List, [], ◌∷◌, map, filter, Option, Some, None}
use Rattle.filter_codec.specs.Rules.{real_in_slot}
use Rattle.filter_model.specs.Nodes.{Branch}
use Rattle.filter_model.specs.Trie.{END}
use Rattle.suffix_bits.specs.Slots.{SuffixArray}

-- the letters of the branches that are leaves
abbrev pub leaf_letters : List Branch → List ℕ
leaf_letters bs = map (λ (b : Branch). b.0) (filter (λ (b : Branch). not b.1) bs)

-- of leaves with these letters, from a slot on, the first that ends and has real bits
abbrev pub wrong_end : SuffixArray → ℕ → List ℕ → Option ℕ
wrong_end array slot [] = None
wrong_end array slot (c ∷ cs) = cond ((c == END) && not (real_in_slot array slot == 0)) (Some slot) (wrong_end array (suc slot) cs)

-- the label at a place is 255, and the first of several of a node
abbrev pub is_mark : List ℕ → List Bool → ℕ → Bool
is_mark labels louds p = (slice_index labels p == 255) && slice_index_or louds p false && nat_lt (p + 1) (length louds) && not (slice_index_or louds (p + 1) false)
