use Rattle.std.specs.Prelude.{◌≡◌}
use Rattle.filter_iter.specs.Borders.{IsBorder, leaves_at}
use Rattle.filter_iter.proofs.borders.leaves_before.Given as goal

-- the border is on the level that was come to, with the same leaves before it
abbrev pub invariant-loop-at : goal.invariant-loop-at
invariant-loop-at g l = IsBorder l.fn.trie.leaves l.at l.border × (leaves_at l.fn.trie.leaves l.at l.border ≡ leaves_at l.fn.trie.leaves l.fn.level l.fn.border)
