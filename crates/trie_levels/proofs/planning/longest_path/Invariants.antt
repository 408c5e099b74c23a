use Rattle.std.proofs.Common.{◌≡◌, ◌≤◌, max, drop}
use Rattle.filter_model.specs.Trie.{height}
use Rattle.trie_levels.proofs.planning.longest_path.Given as goal

-- the longest of the paths passed and of the rest is the longest of all
abbrev pub invariant-loop-i : goal.invariant-loop-i
invariant-loop-i l = (max l.longest (height (drop l.i l.leaves)) ≡ height l.leaves) × (l.longest ≤ 1025)
