use Rattle.std.specs.Prelude.{◌≡◌, ◌-◌, ◌≤◌, length, take}
use Rattle.filter_iter.specs.Between.{LeadsAlong}
use Rattle.trie_model.specs.Rests.{first_leaf}
use Rattle.filter_iter.proofs.between.some_to.Given as goal

-- the bytes read so far lead there, and as many leaves come before as at the start
abbrev pub invariant-loop-lead : goal.invariant-loop-lead
invariant-loop-lead g l =
    (l.read ≤ length l.hi) × LeadsAlong l.fn.trie.leaves l.hi l.read l.lead × (first_leaf l.fn.trie.leaves (take l.read l.hi) ≡ first_leaf l.fn.trie.leaves (take l.initial.read l.hi))

abbrev pub decreases-loop-lead : goal.decreases-loop-lead
decreases-loop-lead g l = length l.hi - l.read
