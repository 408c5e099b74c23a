use Rattle.std.proofs.Common.{sym}
use Rattle.filter_iter.proofs.Branching.{not_empty}
use Rattle.filter_iter.proofs.branches.last_branch.Goals as goal

pub unreachable-requires : goal.unreachable-requires
unreachable-requires g c = not_empty c.args.trie.now.hash_bits c.args.trie.now.real_bits c.args.trie.now.leaves c.requires.stands.valid c.args.node c.requires.node (sym c.in-None.ensures)
