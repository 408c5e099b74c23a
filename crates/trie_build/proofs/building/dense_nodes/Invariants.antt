use Rattle.std.proofs.Common.{◌≡◌, ◌≤◌, ◌*◌, ◌^◌, sum, take}
use Rattle.trie_build.proofs.building.dense_nodes.Given as goal

-- the nodes of the levels passed
abbrev pub invariant-loop-level : goal.invariant-loop-level
invariant-loop-level l = (l.nodes ≡ sum (take l.level l.levels.nodes)) × (l.nodes ≤ l.level * 2 ^ 32)
