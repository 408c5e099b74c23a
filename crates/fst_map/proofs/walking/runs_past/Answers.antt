use Rattle.std.proofs.Common.{sym}
use Rattle.fst_map.proofs.Lists.{no_walk_past, walk_past}
use Rattle.fst_map.proofs.walking.runs_past.Goals as goal

pub returns-in-Some : goal.returns-in-Some
returns-in-Some g c =
    walk_past c.args.trie.now.leaves c.requires c.args.bound.now c.in-Some.field-0-0 c.in-Some.stub (λ i. (c.type_inv.bound i).fits) c.in-Some.ensures.stub c.in-Some.ensures.within

pub returns-in-None : goal.returns-in-None
returns-in-None g c = sym (no_walk_past c.args.trie.now.leaves c.requires c.args.bound.now c.in-None.ensures.slot)
