use Rattle.std.proofs.Common.{◌≡◌, ◌≤◌, ◌+◌, ◌*◌, ◌^◌, sum, drop}
use Rattle.trie_build.proofs.building.sparse_labels.Given as goal

-- the labels of the levels passed, and of the others
abbrev pub invariant-loop-level : goal.invariant-loop-level
invariant-loop-level l = (l.labels + sum (drop l.level l.levels.labels) ≡ sum (drop l.cutoff l.levels.labels)) × (l.labels ≤ l.level * 2 ^ 32)
