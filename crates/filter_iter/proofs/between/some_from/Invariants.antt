use Rattle.std.specs.Prelude.{◌≡◌, ◌-◌, ◌≤◌, length, take}
use Rattle.filter_iter.specs.Between.{LeadsAlong}
use Rattle.filter_iter.specs.CursorPath.{leaves_to}
use Rattle.filter_iter.proofs.between.some_from.Given as goal

-- the bytes read so far lead there, and the same leaves are to come as from the start
abbrev pub invariant-loop-lead : goal.invariant-loop-lead
invariant-loop-lead g l =
    (l.read ≤ length l.lo) × LeadsAlong l.fn.trie.leaves l.lo l.read l.lead × (leaves_to l.fn.trie.leaves (take l.read l.lo) ≡ leaves_to l.fn.trie.leaves (take l.initial.read l.lo))

abbrev pub decreases-loop-lead : goal.decreases-loop-lead
decreases-loop-lead g l = length l.lo - l.read
