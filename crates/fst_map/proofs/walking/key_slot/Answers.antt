use Rattle.fst_map.proofs.Lists.{no_walk_no_key, short_walk_no_key, whole_walk_key}
use Rattle.fst_map.proofs.walking.key_slot.Goals as goal

pub returns-in_default : goal.returns-in_default
returns-in_default g c = no_walk_no_key c.args.trie.now.leaves c.requires c.args.key.now c.in_default.ensures.slot

pub returns-then-stub-key : goal.returns-then-stub-key
returns-then-stub-key g c =
    whole_walk_key c.args.trie.now.leaves c.requires c.args.key.now c.in-Some.slot c.in-Some.stub (λ i. (c.type_inv.key i).fits) c.in-Some.ensures.stub c.if-stub-key.true

pub returns-else-stub-key : goal.returns-else-stub-key
returns-else-stub-key g c =
    short_walk_no_key c.args.trie.now.leaves c.requires c.args.key.now c.in-Some.slot c.in-Some.stub (λ i. (c.type_inv.key i).fits) c.in-Some.ensures.stub c.in-Some.ensures.within c.if-stub-key.false
