use Rattle.std.proofs.Common.{◌+◌, ◌∙◌, arith, length-append, sym}
use Rattle.filter_codec.proofs.tree.Packed.node_count.Goals as goal

pub overflow_add-result : goal.overflow_add-result
overflow_add-result g c = omega (arith, c.dense_count.ensures.few, c.sparse_count.ensures.few)

pub returns : goal.returns
returns g c = (λ j. c.dense_count.ensures.count j + c.sparse_count.ensures.count j) ∙ sym (length-append c.args.self.now.dense c.args.self.now.sparse)
