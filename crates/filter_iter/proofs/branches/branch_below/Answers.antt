use Rattle.filter_iter.proofs.Branching.{prev_end, prev_some}
use Rattle.filter_trie.specs.Places.{branch_number}
use Rattle.filter_iter.proofs.branches.branch_below.Goals as goal

pub returns-in-Some : goal.returns-in-Some
returns-in-Some g c = prev_some c.args.trie.now.hash_bits c.args.trie.now.real_bits c.args.trie.now.leaves c.requires.stands.valid c.args.node c.requires.node c.args.below (branch_number c.args.trie.now c.in-Some.place) c.requires.below c.in-Some.ensures.place c.branch_at.result c.branch_at.ensures

pub returns-in-None : goal.returns-in-None
returns-in-None g c = prev_end c.args.trie.now.hash_bits c.args.trie.now.real_bits c.args.trie.now.leaves c.requires.stands.valid c.args.node c.requires.node c.args.below c.requires.below c.in-None.ensures.place c.end_branch.result c.end_branch.ensures
