-- How many levels of a filter are dense when it is built.
use Rattle.std.specs.Prelude.{ℕ, List}
use Rattle.filter_model.specs.Leaves.{Leaf}
use Rattle.filter_model.specs.Trie.{cutoff_of, level_labels, level_nodes}

-- the rule's cutoff for the trie of a leaf list
abbrev pub rule_cutoff : ℕ → List Leaf → ℕ
rule_cutoff ratio ls = cutoff_of ratio (level_nodes ls) (level_labels ls)
