-- What a cursor stands at.
use Rattle.std.specs.Prelude.{ℕ, ◌≤◌, List, [], get_or, map}
use Rattle.std.specs.List.{All}
use Rattle.filter_api.specs.Spellings.{MayBeTrie}
use Rattle.filter_iter.specs.LeafPlace.{HasSpot, IsMark}
use Rattle.filter_iter.specs.CursorPath.{IsWayTo}
use Rattle.filter_iter.specs.declared.parts.Mark.{Mark}
use Rattle.filter_iter.specs.declared.parts.Pass.{Pass}
use Rattle.filter_model.specs.Leaves.{Filter, Leaf}
use Rattle.filter_model.specs.Trie.{height, path}
use Rattle.filter_trie.specs.Walks.{IsSlotAt}
use Rattle.smallvec.specs.SmallVec.{SmallVec}

-- a leaf of a trie, by its number in key order
pub record Standing : Type 0 where
  pub image : Filter
  pub leaf : ℕ

-- at another leaf of the same trie
abbrev pub moved : Standing → ℕ → Standing
moved s leaf = record s { leaf = leaf }

-- the slot of leaf n
abbrev pub IsSlotOf : List Leaf → ℕ → ℕ → Type 0
IsSlotOf ls n slot = IsSlotAt ls slot (get_or (map path ls) n [])

-- the way goes to the leaf, whose slot this is, knows where its branches stand, if anything, and has room for every other
pub record IsStanding (i : Filter) (leaf slot : ℕ) (way : SmallVec Pass) (kept : SmallVec Mark) : Type 0 where
  pub stands : MayBeTrie i.hash_bits i.real_bits i.cutoff i.leaves
  pub to : IsWayTo i.leaves leaf slot way.items
  pub spots : All (HasSpot i) way.items
  pub marks : All (IsMark i) kept.items
  pub room : height i.leaves ≤ way.capacity
