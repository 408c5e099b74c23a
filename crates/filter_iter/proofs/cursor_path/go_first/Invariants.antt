use Rattle.std.specs.Prelude.{◌≡◌, ◌-◌, length}
use Rattle.std.specs.List.{All}
use Rattle.filter_iter.specs.LeafPlace.{HasSpot, IsMark}
use Rattle.filter_iter.specs.CursorPath.{IsWay, LeadGoesTo, letters_of}
use Rattle.trie_model.specs.Rests.{first_leaf}
use Rattle.filter_model.specs.Trie.{height}
use Rattle.filter_iter.proofs.cursor_path.go_first.Given as goal

-- what comes before the way stays the same
abbrev pub invariant-loop-lead : goal.invariant-loop-lead
invariant-loop-lead g l =
    IsWay l.fn.trie.leaves l.way.items × LeadGoesTo l.fn.trie.leaves (letters_of l.way.items) l.lead × (first_leaf l.fn.trie.leaves (letters_of l.way.items) ≡ first_leaf l.fn.trie.leaves (letters_of l.initial.way.items)) × (l.way.capacity ≡ l.initial.way.capacity) × All (HasSpot l.fn.trie) l.way.items × All (IsMark l.fn.trie) l.marks.items

abbrev pub decreases-loop-lead : goal.decreases-loop-lead
decreases-loop-lead g l = height l.fn.trie.leaves - length l.way.items
