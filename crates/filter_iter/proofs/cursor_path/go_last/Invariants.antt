use Rattle.std.specs.Prelude.{◌≡◌, ◌-◌, length}
use Rattle.std.specs.List.{All}
use Rattle.filter_iter.specs.LeafPlace.{HasSpot}
use Rattle.filter_iter.specs.CursorPath.{IsWay, LeadGoesTo, letters_of, leaves_to}
use Rattle.filter_model.specs.Trie.{height}
use Rattle.filter_iter.proofs.cursor_path.go_last.Given as goal

-- what comes behind the way stays the same
abbrev pub invariant-loop-lead : goal.invariant-loop-lead
invariant-loop-lead g l =
    IsWay l.fn.trie.leaves l.way.items × LeadGoesTo l.fn.trie.leaves (letters_of l.way.items) l.lead × (leaves_to l.fn.trie.leaves (letters_of l.way.items) ≡ leaves_to l.fn.trie.leaves (letters_of l.initial.way.items)) × (l.way.capacity ≡ l.initial.way.capacity) × All (HasSpot l.fn.trie) l.way.items

abbrev pub decreases-loop-lead : goal.decreases-loop-lead
decreases-loop-lead g l = height l.fn.trie.leaves - length l.way.items
