use Rattle.std.proofs.Common.{[], length, arith, ap}
use Rattle.filter_model.proofs.Shared.{shared-le}
use Rattle.trie_levels.proofs.spans.closes.Goals as goal

pub overflow_cast-result : goal.overflow_cast-result
overflow_cast-result c =
    omega (arith, c.shared.ensures, shared-le c.get.result.now c.get-then-i-len.result.now, ap length c.get.ensures, (c.requires.keys.each c.args.i [] c.requires.within).short)

pub overflow_add-result : goal.overflow_add-result
overflow_add-result c =
    omega (arith, c.shared.ensures, shared-le c.get.result.now c.get-then-i-len.result.now, ap length c.get.ensures, (c.requires.keys.each c.args.i [] c.requires.within).short)

pub returns-then-i-len-clause-short : goal.returns-then-i-len-clause-short
returns-then-i-len-clause-short c =
    omega (arith, c.shared.ensures, shared-le c.get.result.now c.get-then-i-len.result.now, ap length c.get.ensures, (c.requires.keys.each c.args.i [] c.requires.within).short)
