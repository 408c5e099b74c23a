use Rattle.std.proofs.Common.{◌≡◌, ◌≤◌, ◌*◌, ◌^◌, sum, take}
use Rattle.trie_levels.proofs.rule.all_nodes.Given as goal

-- the nodes of the levels passed
abbrev pub invariant-loop-level : goal.invariant-loop-level
invariant-loop-level l = (l.all ≡ sum (take l.level l.levels.nodes)) × (l.all ≤ l.level * 2 ^ 64)
