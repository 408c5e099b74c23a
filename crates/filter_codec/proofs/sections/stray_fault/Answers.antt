use Rattle.std.proofs.Common.{arith}
use Rattle.filter_codec.proofs.Strays.{bytes_of, first_stray, none_stray}
use Rattle.filter_codec.proofs.sections.stray_fault.Goals as goal

pub returns-then-children-i-ne0 : goal.returns-then-children-i-ne0
returns-then-children-i-ne0 c =
    let l = c.args.labels.now in
    let d = c.args.children.now in
    first_stray l d (bytes_of l c.type_inv.labels) (bytes_of d c.type_inv.children) c.requires.same c.loop-i.i (omega arith) c.if-children-i-ne0.true c.loop-i.invariant

pub returns : goal.returns
returns c =
    let l = c.args.labels.now in
    let d = c.args.children.now in
    none_stray l d (bytes_of l c.type_inv.labels) (bytes_of d c.type_inv.children) c.requires.same (λ k lt. c.loop-i.invariant k (omega arith))
