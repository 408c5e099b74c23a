use Rattle.std.proofs.Common.{◌∙◌}
use Rattle.filter_iter.proofs.Branching.{end_first, not_empty, nought_first}
use Rattle.filter_iter.proofs.branches.first_by_search.Goals as goal

pub returns-in-Some : goal.returns-in-Some
returns-in-Some g c =
    let first = end_first c.args.trie.now.hash_bits c.args.trie.now.real_bits c.args.trie.now.leaves c.requires.stands.valid c.args.node c.requires.node c.in-Some.branch c.in-Some.ensures in
    record { branch = first.0; first = first.1 }

pub returns : goal.returns
returns g c =
    record { branch = c.in-Some-branch_from.ensures.0; first = c.in-Some-branch_from.ensures.2 ∙ nought_first c.args.trie.now.hash_bits c.args.trie.now.real_bits c.args.trie.now.leaves c.requires.stands.valid c.args.node c.requires.node c.in_default.ensures }

pub unreachable-requires : goal.unreachable-requires
unreachable-requires g c = not_empty c.args.trie.now.hash_bits c.args.trie.now.real_bits c.args.trie.now.leaves c.requires.stands.valid c.args.node c.requires.node (c.in-None.ensures ∙ nought_first c.args.trie.now.hash_bits c.args.trie.now.real_bits c.args.trie.now.leaves c.requires.stands.valid c.args.node c.requires.node c.in_default.ensures)
