use Rattle.filter_trie.specs.Parts.{image_by}
use Rattle.map_writer.proofs.trie.joined.Given as goal

-- what the parts stand for
abbrev pub ghost-of : goal.ghost-of
ghost-of a = image_by a.cutoff a.height a.dense a.sparse.nodes a.suffixes
