use Rattle.std.proofs.Common.{◌≡◌, ◌≤◌, ◌<◌, ◌-◌, ◌*◌, ◌^◌, sum, take, drop, length}
use Rattle.filter_model.specs.Trie.{cutoff_from}
use Rattle.trie_levels.proofs.rule.cutoff.Given as goal

abbrev pub invariant-loop-passed : goal.invariant-loop-passed
invariant-loop-passed l =
    (cutoff_from (length l.levels.nodes) l.ratio l.levels.nodes l.levels.labels ≡ cutoff_from (length l.levels.nodes - l.passed) l.ratio l.levels.nodes l.levels.labels)
    × (l.below ≡ sum (take (length l.levels.nodes - l.passed) l.levels.nodes))
    × (l.from ≡ sum (drop (length l.levels.nodes - l.passed) l.levels.labels))
    × (l.from ≤ l.passed * 2 ^ 64)
    × (l.below < 2 ^ 80)
