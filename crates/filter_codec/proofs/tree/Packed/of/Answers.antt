use Rattle.std.proofs.Common.{◌∙◌, ap, arith}
use Rattle.filter_codec.proofs.Spelled.{dense_by, sparse_by, tree_by, whole}
use Rattle.filter_codec.specs.Judging.{image_end}
use Rattle.filter_codec.specs.declared.header.Header.{Header}
use Rattle.filter_codec.proofs.tree.Packed.of.Goals as goal

pub of-requires-clause-whole : goal.of-requires-clause-whole
of-requires-clause-whole g c = ap image_end c.requires.header ∙ whole c.args.bytes.now c.requires.kept.lengths

pub of-requires-2-clause-whole : goal.of-requires-2-clause-whole
of-requires-2-clause-whole g c = ap image_end c.requires.header ∙ whole c.args.bytes.now c.requires.kept.lengths

pub joined-requires-clause-dense : goal.joined-requires-clause-dense
joined-requires-clause-dense g c =
    let u = c.in_ok-upper.ensures in
    dense_by c.args.bytes.now _ _ _ u.labels u.children u.ends c.requires.kept.strays (omega (arith, ap (λ (h : Header). h.dense) c.requires.header, c.if-header-gt-MANY_NODES.false))

pub joined-requires-clause-sparse : goal.joined-requires-clause-sparse
joined-requires-clause-sparse g c =
    let l = c.in_ok-lower.ensures in
    sparse_by c.args.bytes.now _ _ _ l.labels l.children (l.louds ∙ c.requires.louds) c.requires.kept (omega (arith, ap (λ (h : Header). h.labels) c.requires.header, c.if-header-ge-MANY_LABELS.false))

pub returns : goal.returns
returns g c =
    let u = c.in_ok-upper.ensures in
    let l = c.in_ok-lower.ensures in
    c.joined.ensures ∙ tree_by c.args.bytes.now _ _ _ _ _ _ u.labels u.children u.ends l.labels l.children (l.louds ∙ c.requires.louds)
