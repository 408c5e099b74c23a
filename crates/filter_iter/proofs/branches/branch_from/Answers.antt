use Rattle.filter_iter.proofs.Branching.{next_none, next_some}
use Rattle.filter_trie.specs.Places.{branch_number}
use Rattle.filter_iter.proofs.branches.branch_from.Goals as goal

pub returns-in-Some : goal.returns-in-Some
returns-in-Some g c = next_some c.args.trie.now.hash_bits c.args.trie.now.real_bits c.args.trie.now.leaves c.requires.stands.valid c.args.node c.requires.node c.args.from (branch_number c.args.trie.now c.in-Some.place) c.requires.from c.in-Some.ensures.place c.branch_at.result c.branch_at.ensures

pub returns-in-None : goal.returns-in-None
returns-in-None g c = next_none c.args.trie.now.hash_bits c.args.trie.now.real_bits c.args.trie.now.leaves c.requires.stands.valid c.args.node c.requires.node c.args.from c.requires.from c.in-None.ensures.place
