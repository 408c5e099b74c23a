-- The way down to the least leaf.
use Rattle.std.specs.Prelude.{◌≡◌, ℕ, ◌-◌, ◌<◌, List, [], length, get_or}
use Rattle.filter_model.specs.Leaves.{Leaf}
use Rattle.filter_model.specs.Trie.{nodes}
use Rattle.filter_trie.specs.Walks.{IsSlotAt}
use Rattle.louds_sparse.specs.declared.lead.Lead.{Lead}
use Rattle.louds_sparse.specs.declared.lead.Lead.TheVariants as lead
use Rattle.trie_model.specs.Rests.{first_leaf}
use Rattle.trie_model.specs.Walks.{least_path}

-- the least leaf there is the least one behind q
abbrev pub IsOnWay : List Leaf → List ℕ → Lead → Type 0
IsOnWay ls q (lead.Child v) = (v < length (nodes ls)) × (first_leaf ls (get_or (nodes ls) v []) ≡ first_leaf ls q)
IsOnWay ls q (lead.Leaf s) = IsSlotAt ls s (least_path ls q)

-- how many levels may come below
abbrev pub levels_below : ℕ → List Leaf → Lead → ℕ
levels_below height ls (lead.Child v) = height - length (get_or (nodes ls) v [])
levels_below height ls (lead.Leaf s) = 0
