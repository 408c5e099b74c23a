use Rattle.filter_iter.specs.Borders.{IsDescent}
use Rattle.filter_iter.proofs.reaching.follow.Given as goal

-- the bound was followed down to the level
abbrev pub invariant-loop-level : goal.invariant-loop-level
invariant-loop-level g l = IsDescent l.fn.trie.leaves l.bound l.level l.descent
