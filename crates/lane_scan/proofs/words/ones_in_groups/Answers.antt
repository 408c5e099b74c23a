use Rattle.std.proofs.Common.{◌+◌, ◌*◌, arith}
use Rattle.lane_scan.proofs.Counts.{ones_between-le}
use Rattle.lane_scan.proofs.words.ones_in_groups.Goals as goal

pub overflow_add-total : goal.overflow_add-total
overflow_add-total c =
    let before = ones_between-le c.args.words.now c.type_inv.words 0 (32 * c.loop-i.i) (omega arith) in
    let group = ones_between-le c.args.words.now c.type_inv.words (32 * c.loop-i.i) (32 * c.loop-i.i + 32) (omega arith) in
    record { fits = omega (arith, before, group, c.loop-i.invariant, c.ones_in_group-total.ensures) }
