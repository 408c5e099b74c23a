use Rattle.std.proofs.Common.{◌==◌, drop, length-drop, arith}
use Rattle.std.proofs.lemmas.List.Sums.{common_prefix_len-le}
use Rattle.key_base.proofs.order.shared.Goals as goal

-- past the end of one of the two the rests share nothing
pub returns : goal.returns
returns c =
    let a = c.args.a.now in
    let b = c.args.b.now in
    let i = c.loop-i.i in
    let le = common_prefix_len-le (λ x y. x == y) (drop i a) (drop i b) in
    omega (arith, c.loop-i.invariant, c.min-end.ensures, le.0, le.1, length-drop i a, length-drop i b)
