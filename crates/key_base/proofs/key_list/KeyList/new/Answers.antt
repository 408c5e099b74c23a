use Rattle.key_base.proofs.KeyLists.{no_ends, no_keys}
use Rattle.key_base.proofs.key_list.KeyList.new.Goals as goal

pub invariant_of-result : goal.invariant_of-result
invariant_of-result c = no_ends c.new-2.result.items c.new.result.items c.new-2.ensures.items c.new.ensures.items

pub returns : goal.returns
returns c = no_keys c.new-2.result.items c.new.result.items c.new-2.ensures.items
