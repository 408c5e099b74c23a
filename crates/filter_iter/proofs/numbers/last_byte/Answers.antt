use Rattle.filter_iter.proofs.Branching.{within_branches}
use Rattle.filter_iter.proofs.numbers.last_byte.Goals as goal

pub loop-low-init : goal.loop-low-init
loop-low-init g c =
    rw (c.order-low.ensures, c.order-high.ensures)
    (within_branches c.args.trie.now.hash_bits c.args.trie.now.real_bits c.args.trie.now.leaves c.requires.at.stands.valid c.args.border.node c.requires.at.node c.first_branch.result.0.letter c.last_branch-last.result.letter c.args.n c.first_branch.ensures.branch.branch.letter c.last_branch-last.ensures.branch.letter c.first_branch.ensures.branch.first c.last_branch-last.ensures.last c.requires.below.0 c.requires.below.1)
