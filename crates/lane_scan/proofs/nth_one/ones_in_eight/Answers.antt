use Rattle.std.proofs.Common.{get_or, arith}
use Rattle.std.proofs.lemmas.Nat.{ones-le}
use Rattle.lane_scan.proofs.Counts.{ones_between-le}
use Rattle.lane_scan.proofs.nth_one.ones_in_eight.Goals as goal

pub overflow_add-total : goal.overflow_add-total
overflow_add-total c =
    let word = ones-le 64 (get_or c.args.words.now c.loop-i.i 0) (c.type_inv.words c.loop-i.i).fits in
    let before = ones_between-le c.args.words.now c.type_inv.words c.args.at c.loop-i.i (omega arith) in
    record { fits = omega (arith, word, before, c.loop-i.invariant, c.from-total.ensures) }
