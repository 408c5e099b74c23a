use Rattle.std.proofs.Common.{◌∙◌, ap, arith, length, sym}
use Rattle.filter_codec.proofs.Spelled.{are_long, bits_4}
use Rattle.filter_codec.specs.Judging.{image_end}
use Rattle.filter_codec.specs.declared.header.Header.{Header}
use Rattle.filter_codec.proofs.tree.Lower.of.Goals as goal

pub ranked-requires : goal.ranked-requires
ranked-requires g c =
    let l = are_long c.args.bytes.now (ap image_end (sym c.requires.header) ∙ c.requires.whole) in
    omega (arith, ap (λ (h : Header). h.labels) c.requires.header, ap length c.cut-sections.ensures.children, l.children)

pub returns-clause-children : goal.returns-clause-children
returns-clause-children g c = c.in_ok-ranked.ensures ∙ bits_4 c.args.bytes.now _ c.args.header.now c.requires.header c.cut-sections.ensures.children
