use Rattle.map_writer.proofs.trie.whole_trie.Given as goal
use Rattle.whole_keys.specs.Whole.{whole_leaves}

-- the leaves of the keys
abbrev pub ghost-build_halves : goal.ghost-build_halves
ghost-build_halves a = whole_leaves a.keys.now
