use Rattle.filter_iter.specs.Borders.{IsDescent}
use Rattle.filter_iter.proofs.reaching.meet.Given as goal

-- both bounds were followed down to the level
abbrev pub invariant-loop-level : goal.invariant-loop-level
invariant-loop-level g l = IsDescent l.fn.trie.leaves l.lo l.level l.low × IsDescent l.fn.trie.leaves l.hi l.level l.high
