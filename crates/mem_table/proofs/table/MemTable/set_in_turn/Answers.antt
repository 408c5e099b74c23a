use Rattle.std.proofs.Common.{rules, ◌<◌, ℕ, zero, suc, List, [], ◌∷◌, length, get_or, sym, subst, arith}
use Rattle.std.specs.List.{AllByRecursion}
use Rattle.std.proofs.lemmas.Iterator.Adapters.{YieldsList-from_vec}
use Rattle.std.proofs.lemmas.Iterator.Consumers.{YieldsList-turn}
use Rattle.range_model.specs.Sources.{Change, ClearsKeys}
use Rattle.mem_table.proofs.table.MemTable.set_in_turn.Goals as goal

clears_at : (changes : List Change) (i : ℕ) (d : Change) → AllByRecursion ClearsKeys changes → i < length changes → ClearsKeys (get_or changes i d)
clears_at [] i d all lt = absurd (omega arith)
clears_at (change ∷ later) zero d all lt = all.0
clears_at (change ∷ later) (suc i) d all lt = clears_at later i d all.1 (omega arith)

pub make-requires : goal.make-requires
make-requires c =
    let change = c.in-Some.change in
    let turn = YieldsList-turn (YieldsList-from_vec {s = c.into_iter-change-iterator.result} c.args.changes.items (search rules) (search rules))
    c.loop-change.yielded c.loop-change.change-iterator c.loop-change.yielded_by c.next.result c.next.new.self change c.in-Some.is c.next.ensures.steps in
    subst ClearsKeys (sym turn.1) (clears_at c.args.changes.items (length c.loop-change.yielded) change c.requires turn.0)
