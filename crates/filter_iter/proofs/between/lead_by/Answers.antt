use Rattle.filter_iter.proofs.Branching.{by_branch, by_none}
use Rattle.filter_trie.specs.Places.{branch_number}
use Rattle.filter_iter.proofs.between.lead_by.Goals as goal

pub returns-in_Some-place : goal.returns-in_Some-place
returns-in_Some-place g c = by_branch c.args.trie.now.hash_bits c.args.trie.now.real_bits c.args.trie.now.leaves c.requires.stands.valid c.args.node c.requires.node c.args.byte (branch_number c.args.trie.now c.in_Some-place.place) c.in_Some-place.ensures.place c.lead_at.result c.lead_at.ensures

pub returns-in_None-place : goal.returns-in_None-place
returns-in_None-place g c = by_none c.args.trie.now.hash_bits c.args.trie.now.real_bits c.args.trie.now.leaves c.requires.stands.valid c.args.node c.requires.node c.args.byte c.ranges.byte.fits c.in_None-place.ensures.place
