use Rattle.std.proofs.Common.{subst, sym}
use Rattle.filter_trie.specs.Parts.{AreParts}
use Rattle.filter_trie.proofs.Parts.{stands_for}
use Rattle.filter_trie.proofs.trie.Trie.of.Goals as goal

pub invariant_of-trie : goal.invariant_of-trie
invariant_of-trie g c = (subst (λ i. AreParts i c.args.cutoff c.args.height c.args.dense c.args.sparse c.args.suffixes) (sym (stands_for c.requires.1)) c.requires.1, tt, tt)

pub invariant_of-trie-2 : goal.invariant_of-trie-2
invariant_of-trie-2 g c = (subst (λ i. AreParts i c.args.cutoff c.args.height c.args.dense c.args.sparse c.args.suffixes) (sym (stands_for c.requires.1)) c.requires.1, c.count_level_starts.ensures, tt)

pub returns : goal.returns
returns g c = stands_for c.requires.1
