use Rattle.filter_trie.proofs.WaysDown.{IsOnWay, levels_below}
use Rattle.filter_trie.specs.Places.{string_at}
use Rattle.filter_model.specs.Trie.{height}
use Rattle.filter_trie.proofs.trie.Trie.leftmost.Given as goal

-- the least leaf there is the one that is looked for
abbrev pub invariant-loop-lead : goal.invariant-loop-lead
invariant-loop-lead g l = IsOnWay l.fn.self.leaves (string_at l.fn.self l.fn.place) l.lead

abbrev pub decreases-loop-lead : goal.decreases-loop-lead
decreases-loop-lead g l = levels_below (height l.fn.self.leaves) l.fn.self.leaves l.lead
