use Rattle.std.proofs.Common.{◌∙◌, ap, arith, length, sym}
use Rattle.filter_codec.proofs.Spelled.{are_long, bits_0, bits_1, bits_2}
use Rattle.filter_codec.specs.Judging.{image_end}
use Rattle.filter_codec.specs.declared.header.Header.{Header}
use Rattle.filter_codec.proofs.tree.Upper.of.Goals as goal

pub overflow_mul-dense : goal.overflow_mul-dense
overflow_mul-dense g c = omega (arith, c.requires.few)

pub ranked-requires : goal.ranked-requires
ranked-requires g c =
    let l = are_long c.args.bytes.now (ap image_end (sym c.requires.header) ∙ c.requires.whole) in
    omega (arith, ap (λ (h : Header). h.dense) c.requires.header, ap length c.cut-sections.ensures.dense_labels, l.labels)

pub overflow_mul-dense-2 : goal.overflow_mul-dense-2
overflow_mul-dense-2 g c = omega (arith, c.requires.few)

pub ranked-requires-2 : goal.ranked-requires-2
ranked-requires-2 g c =
    let l = are_long c.args.bytes.now (ap image_end (sym c.requires.header) ∙ c.requires.whole) in
    omega (arith, ap (λ (h : Header). h.dense) c.requires.header, ap length c.cut-sections.ensures.dense_children, l.dense_children)

pub ranked-requires-3 : goal.ranked-requires-3
ranked-requires-3 g c =
    let l = are_long c.args.bytes.now (ap image_end (sym c.requires.header) ∙ c.requires.whole) in
    omega (arith, ap (λ (h : Header). h.dense) c.requires.header, ap length c.cut-sections.ensures.dense_ends, l.ends)

pub returns-clause-labels : goal.returns-clause-labels
returns-clause-labels g c = c.in_ok-ranked.ensures ∙ bits_0 c.args.bytes.now _ c.args.header.now c.requires.header c.cut-sections.ensures.dense_labels

pub returns-clause-children : goal.returns-clause-children
returns-clause-children g c = c.in_ok-ranked-2.ensures ∙ bits_1 c.args.bytes.now _ c.args.header.now c.requires.header c.cut-sections.ensures.dense_children

pub returns-clause-ends : goal.returns-clause-ends
returns-clause-ends g c = c.in_ok-ranked-3.ensures ∙ bits_2 c.args.bytes.now _ c.args.header.now c.requires.header c.cut-sections.ensures.dense_ends
