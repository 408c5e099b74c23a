use Rattle.std.proofs.Common.{subst, sym}
use Rattle.trie_laws.specs.Nodes.{IsTrieNode}
use Rattle.trie_model.specs.Given.{AreRising}
use Rattle.trie_build.proofs.Levels.{given_rises}
use Rattle.trie_build.proofs.open_node.OpenNode.give.Goals as goal

pub add-requires-clause-branches : goal.add-requires-clause-branches
add-requires-clause-branches g c =
    subst AreRising (sym c.as_slice.ensures.value) (given_rises c.self.inside.end c.self.inside.branches.items c.self.invariant (subst IsTrieNode (sym c.self.view_is) c.requires.form))
