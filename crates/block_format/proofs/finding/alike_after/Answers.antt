use Rattle.std.proofs.Common.{arith}
use Rattle.std.specs.Prelude.{◌==◌}
use Rattle.std.proofs.lemmas.List.Sums.{common_prefix_len-le}
use Rattle.block_format.proofs.finding.alike_after.Goals as goal

pub overflow_add-result : goal.overflow_add-result
overflow_add-result c =
    let le = (common_prefix_len-le (λ x y. x == y) c.args.own.now c.from_place-sought.result.now).0 in
    omega (arith, le, c.shared-alike.ensures, c.requires)
