use Rattle.std.specs.Prelude.{◌≡◌, ◌++◌, ◌∷◌, [], take}
use Rattle.std.specs.List.{All}
use Rattle.filter_iter.specs.Borders.{IsDescent, IsStepBy}
use Rattle.filter_iter.specs.LeafPlace.{HasSpot}
use Rattle.filter_iter.specs.CursorPath.{IsWay, letters_of}
use Rattle.filter_model.specs.Trie.{END}
use Rattle.filter_iter.proofs.following.follow_along.Given as goal

-- the bound was followed down to the level, and the way has the letters so far
abbrev pub invariant-loop-level : goal.invariant-loop-level
invariant-loop-level g l =
    IsDescent l.fn.trie.leaves l.bound l.level l.descent × IsStepBy l.fn.trie.leaves (letters_of l.way.items) l.level l.descent × (letters_of l.way.items ≡ take l.level (l.bound ++ END ∷ []))
    × IsWay l.fn.trie.leaves l.way.items × (l.way.capacity ≡ l.initial.way.capacity) × All (HasSpot l.fn.trie) l.way.items
