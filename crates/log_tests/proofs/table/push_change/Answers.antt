use Rattle.std.proofs.Common.{List, [], ◌∷◌, ◌++◌, sym, subst}
use Rattle.std.specs.List.{AllByRecursion}
use Rattle.range_model.specs.Sources.{Change, ClearsKeys}
use Rattle.log_tests.proofs.table.push_change.Goals as goal

all_more : (changes : List Change) (change : Change) → AllByRecursion ClearsKeys changes → ClearsKeys change → AllByRecursion ClearsKeys (changes ++ change ∷ [])
all_more [] change all keys = (keys, tt)
all_more (first ∷ later) change all keys = (all.0, all_more later change all.1 keys)

pub returns : goal.returns
returns c = subst (AllByRecursion ClearsKeys) (sym c.in_ok-push.ensures.items) (all_more c.args.log.now.items c.args.change c.requires.all c.requires.keys)
