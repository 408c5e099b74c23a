use Rattle.std.specs.Prelude.{◌≡◌, length}
use Rattle.std.specs.List.{All}
use Rattle.filter_iter.specs.LeafPlace.{HasSpot}
use Rattle.filter_iter.specs.CursorPath.{IsWay, letters_of}
use Rattle.trie_model.specs.Rests.{first_leaf}
use Rattle.filter_iter.proofs.cursor_path.turn_before.Given as goal

-- what comes before the way stays the same
abbrev pub invariant-loop-pass : goal.invariant-loop-pass
invariant-loop-pass g l =
    IsWay l.fn.trie.leaves l.way.items × (first_leaf l.fn.trie.leaves (letters_of l.way.items) ≡ first_leaf l.fn.trie.leaves (letters_of l.initial.way.items)) × (l.way.capacity ≡ l.initial.way.capacity) × All (HasSpot l.fn.trie) l.way.items

abbrev pub decreases-loop-pass : goal.decreases-loop-pass
decreases-loop-pass g l = length l.way.items
