use Rattle.std.proofs.Common.{◌/◌, ◌+◌, ◌*◌, length, arith}
use Rattle.lane_scan.specs.Places.{is_one_at}
use Rattle.lane_scan.proofs.Firsts.{search_joined}
use Rattle.lane_scan.proofs.Bits.{first_in_part, none_in_rest}
use Rattle.lane_scan.proofs.places.first_one_from.Goals as goal

pub returns-then-part-ne0 : goal.returns-then-part-ne0
returns-then-part-ne0 c =
    first_in_part c.args.words.now c.args.start c.lowest_one.result (λ k. (c.type_inv.words k).fits) c.if-first-words.false
    record { is_set = c.lowest_one.ensures.is_set; before = c.lowest_one.ensures.before }

pub returns : goal.returns
returns c =
    search_joined (is_one_at c.args.words.now) c.args.start (64 * (c.args.start / 64 + 1)) (64 * length c.args.words.now) c.first_one_behind.result (omega arith)
    (none_in_rest c.args.words.now c.args.start c.if-part-ne0.false) c.first_one_behind.ensures
