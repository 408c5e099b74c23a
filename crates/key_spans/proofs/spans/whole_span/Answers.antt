use Rattle.std.proofs.Common.{[], length, arith, ap}
use Rattle.filter_model.proofs.Shared.{shared-le}
use Rattle.key_spans.proofs.spans.whole_span.Goals as goal

pub overflow_cast-result : goal.overflow_cast-result
overflow_cast-result c =
    omega (arith, c.shared-alike.ensures, shared-le c.get-key.result.now c.get.result.now, ap length c.get-key.ensures, (c.requires.keys.each c.args.i [] c.requires.within).short)

pub overflow_add-result : goal.overflow_add-result
overflow_add-result c =
    omega (arith, c.shared-alike.ensures, shared-le c.get-key.result.now c.get.result.now, ap length c.get-key.ensures, (c.requires.keys.each c.args.i [] c.requires.within).short)
