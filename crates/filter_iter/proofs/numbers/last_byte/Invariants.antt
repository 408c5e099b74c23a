use Rattle.std.specs.Prelude.{◌-◌, ◌<◌, ◌≤◌, [], ◌∷◌, ◌++◌, get_or}
use Rattle.filter_model.specs.Trie.{nodes}
use Rattle.trie_model.specs.Rests.{first_leaf}
use Rattle.filter_iter.proofs.numbers.last_byte.Given as goal

-- not more than n leaves come before the byte below `low`, and more before `high`
abbrev pub invariant-loop-low : goal.invariant-loop-low
invariant-loop-low g l =
    (l.low ≤ l.high) × (l.high ≤ 256) × (0 < l.low → first_leaf l.fn.trie.leaves (get_or (nodes l.fn.trie.leaves) l.fn.border.node [] ++ (l.low - 1) ∷ []) ≤ l.fn.n)
    × (l.high < 256 → l.fn.n < first_leaf l.fn.trie.leaves (get_or (nodes l.fn.trie.leaves) l.fn.border.node [] ++ l.high ∷ []))

abbrev pub decreases-loop-low : goal.decreases-loop-low
decreases-loop-low g l = l.high - l.low
