-- A leaf list is valid where each leaf stands rightly between its neighbours.
use Rattle.std.specs.Prelude.{◌≡◌, ℕ, zero, suc, ◌+◌, ◌==◌, nat_lt, Bool, true, false, cond, ◌&&◌, ◌||◌, List, [], length, slice_index_or}
use Rattle.filter_model.specs.Leaves.{Leaf}
use Rattle.filter_model.specs.Strings.{is_before, extends}
use Rattle.filter_model.specs.Valid.{IsLeaf, joins}

-- no leaf
abbrev pub none : Leaf
none = record { stub = []; ends = false; hash = 0; real = 0 }

-- the leaf at place i
abbrev pub leaf_number : List Leaf → ℕ → Leaf
leaf_number ls i = slice_index_or ls i none

-- the stub at place i is above the one before it
abbrev pub rises_at : List Leaf → ℕ → Bool
rises_at ls zero = true
rises_at ls (suc i) = is_before (leaf_number ls i).stub (leaf_number ls (suc i)).stub

-- the next stub goes on from the one at place i
abbrev pub next_extends : List Leaf → ℕ → Bool
next_extends ls i = nat_lt (i + 1) (length ls) && extends (leaf_number ls i).stub (leaf_number ls (i + 1)).stub

-- the leaf before place i, or the next one, is a branch of a node above the one at place i
abbrev pub joins_before : List Leaf → ℕ → Bool
joins_before ls zero = false
joins_before ls (suc i) = joins (leaf_number ls (suc i)) (leaf_number ls i)

abbrev pub joins_next : List Leaf → ℕ → Bool
joins_next ls i = nat_lt (i + 1) (length ls) && joins (leaf_number ls i) (leaf_number ls (i + 1))

-- the leaf at place i has company, or is alone and one byte long
abbrev pub has_company : List Leaf → ℕ → Bool
has_company ls i = cond (length ls == 1) (length (leaf_number ls i).stub == 1) (joins_before ls i || joins_next ls i)

pub record StandsRightly (hash_bits real_bits : ℕ) (ls : List Leaf) (i : ℕ) : Type 0 where
  pub leaf : IsLeaf hash_bits real_bits (leaf_number ls i)
  pub rise : rises_at ls i ≡ true
  pub ends : (leaf_number ls i).ends ≡ next_extends ls i
  pub company : has_company ls i ≡ true
