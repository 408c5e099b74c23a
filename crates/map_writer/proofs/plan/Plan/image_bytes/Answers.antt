use Rattle.std.proofs.Common.{◌+◌, ◌*◌, ◌∙◌, arith, sym}
use Rattle.map_writer.proofs.plan.Plan.image_bytes.Goals as goal

pub returns : goal.returns
returns c = record {
  exact = λ keys p.
      (λ i. 40 + 64 * c.section_sizes-dense.result.0 + c.div_ceil.ensures i + c.section_sizes-dense.result.1 + 2 * c.div_ceil-2.ensures i)
      ∙ sym (c.section_sizes-dense.ensures.image keys p);
  few = omega (arith, c.div_ceil.ensures, c.div_ceil-2.ensures, c.section_sizes-dense.ensures.few_dense, c.section_sizes-dense.ensures.few_labels);
}
