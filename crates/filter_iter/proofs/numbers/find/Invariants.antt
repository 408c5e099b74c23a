use Rattle.std.specs.Prelude.{◌≡◌, length}
use Rattle.std.specs.List.{All}
use Rattle.filter_iter.specs.Borders.{IsBorder, leaves_at}
use Rattle.filter_iter.specs.Numbers.{IsLeafBelow}
use Rattle.filter_iter.specs.LeafPlace.{HasSpot}
use Rattle.filter_iter.specs.CursorPath.{IsWay, letters_of}
use Rattle.filter_trie.specs.Walks.{IsNodeAt}
use Rattle.trie_model.specs.Rests.{first_leaf}
use Rattle.filter_iter.proofs.numbers.find.Given as goal

-- the way so far leads to the border's node, and leaf n is below it
abbrev pub invariant-loop-level : goal.invariant-loop-level
invariant-loop-level g l =
    IsNodeAt l.fn.trie.leaves l.border.node (letters_of l.way.items) × (length (letters_of l.way.items) ≡ l.level) × IsBorder l.fn.trie.leaves l.level l.border
    × (leaves_at l.fn.trie.leaves l.level l.border ≡ first_leaf l.fn.trie.leaves (letters_of l.way.items)) × IsLeafBelow l.fn.trie.leaves (letters_of l.way.items) l.fn.n
    × IsWay l.fn.trie.leaves l.way.items × (l.way.capacity ≡ l.initial.way.capacity) × All (HasSpot l.fn.trie) l.way.items
