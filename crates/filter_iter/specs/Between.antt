-- The bounds of a range, each by itself.
use Rattle.std.specs.Prelude.{◌≡◌, ℕ, ◌≤◌, nat_lt, Bool, false, List, take, Option, Some, None}
use Rattle.filter_iter.specs.Cuts.{FirstPass, has_begun}
use Rattle.filter_iter.specs.CursorPath.{leaves_to}
use Rattle.filter_iter.specs.declared.parts.Lead.{Lead}
use Rattle.filter_iter.specs.declared.parts.Lead.TheVariants as lead
use Rattle.filter_model.specs.Answers.{is_past}
use Rattle.filter_model.specs.Leaves.{Leaf}
use Rattle.filter_model.specs.Trie.{is_reached}
use Rattle.filter_trie.specs.Walks.{IsNodeAt, IsSlotAt}
use Rattle.trie_model.specs.Rests.{first_leaf}
use Rattle.trie_model.specs.Walks.{slot_of_key}

-- the letters q lead there, or nowhere
abbrev pub LeadsIf : List Leaf → List ℕ → Option Lead → Type 0
LeadsIf ls q None = is_reached ls q ≡ false
LeadsIf ls q (Some (lead.Leaf s)) = IsSlotAt ls s q
LeadsIf ls q (Some (lead.Node v)) = IsNodeAt ls v q

-- the first d bytes of x lead there, and where that is no node, x leads no further
abbrev pub LeadsAlong : List Leaf → List ℕ → ℕ → Option Lead → Type 0
LeadsAlong ls x d None = (None ≡ slot_of_key ls x) × (first_leaf ls x ≡ first_leaf ls (take d x)) × (is_reached ls (take d x) ≡ false)
LeadsAlong ls x d (Some (lead.Leaf s)) = (Some s ≡ slot_of_key ls x) × (first_leaf ls x ≡ first_leaf ls (take d x)) × IsSlotAt ls s (take d x)
LeadsAlong ls x d (Some (lead.Node v)) = IsNodeAt ls v (take d x)

-- whether some leaf whose path begins with p is not past lo
abbrev pub TellsFrom : ℕ → List Leaf → List ℕ → List ℕ → Bool → Type 0
TellsFrom real_bits ls lo p answer =
    (k : ℕ) → FirstPass (is_past real_bits lo) ls k → (k ≤ leaves_to ls p) × (answer ≡ nat_lt k (leaves_to ls p))

-- whether some such leaf begins at or below hi
abbrev pub TellsTo : ℕ → List Leaf → List ℕ → List ℕ → Bool → Type 0
TellsTo real_bits ls hi p answer =
    (k : ℕ) → FirstPass (has_begun real_bits hi) ls k → (first_leaf ls p ≤ k) × (answer ≡ nat_lt (first_leaf ls p) k)
