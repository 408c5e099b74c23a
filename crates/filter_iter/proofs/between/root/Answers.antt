use Rattle.filter_image_model.proofs.Sizes.{some_height}
use Rattle.filter_trie.proofs.Down.{root_first}
use Rattle.filter_iter.proofs.between.root.Goals as goal

pub returns-clause-node : goal.returns-clause-node
returns-clause-node g c = root_first c.args.trie.now.leaves (some_height c.args.trie.now.hash_bits c.args.trie.now.real_bits c.args.trie.now.leaves c.height.ensures.stands.valid)
