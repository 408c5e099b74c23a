use Rattle.std.proofs.Common.{◌∙◌, ap, sym, Bool}
use Rattle.filter_codec.specs.Rules.{shape_rule}
use Rattle.filter_image_model.specs.Kinds.{leaves_beside, leaves_under}
use Rattle.filter_codec.proofs.shape.shape_fault.Goals as goal

pub returns-then-alone : goal.returns-then-alone
returns-then-alone g c =
    let h = c.args.header.now in
    c.shape_fault_by.ensures ∙ ap (λ (a : Bool). shape_rule h.height (leaves_under a h.leaves) (leaves_beside a h.leaves) c.args.packed.now.dense c.args.packed.now.sparse) (sym c.if-alone.true)

pub returns-else-alone : goal.returns-else-alone
returns-else-alone g c =
    let h = c.args.header.now in
    c.shape_fault_by-else-alone.ensures ∙ ap (λ (a : Bool). shape_rule h.height (leaves_under a h.leaves) (leaves_beside a h.leaves) c.args.packed.now.dense c.args.packed.now.sparse) (sym c.if-alone.false)
