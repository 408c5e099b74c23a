use Rattle.std.proofs.Common.{◌≡◌, ℕ, ◌+◌, ◌*◌, arith}
use Rattle.lane_scan.specs.Places.{is_least_at}
use Rattle.lane_scan.proofs.Firsts.{nowhere_joined, search_joined}
use Rattle.lane_scan.proofs.Marks.{no_mark, first_mark, IsLowest}
use Rattle.lane_scan.proofs.labels.first_at_least_between.Goals as goal

pub returns-then-marks-ne0 : goal.returns-then-marks-ne0
returns-then-marks-ne0 c =
    let test : ℕ → _ = is_least_at c.args.section.now c.args.label in
    let at = c.args.start + 16 * c.loop-i.i in
    let lowest : IsLowest _ c.lowest_one.result = record { is_set = c.lowest_one.ensures.is_set; before = c.lowest_one.ensures.before } in
    search_joined test c.args.start at c.args.end c.before_end.result (omega arith) c.loop-i.invariant
    (first_mark test at 16 c.least_at-marks.result c.lowest_one.result c.args.end c.before_end.result c.least_at-marks.ensures lowest c.before_end.ensures)

pub loop-i-preserved : goal.loop-i-preserved
loop-i-preserved c =
    let test : ℕ → _ = is_least_at c.args.section.now c.args.label in
    let at = c.args.start + 16 * c.loop-i.i in
    let next : c.args.start + 16 * (c.loop-i.i + 1) ≡ c.args.start + 16 * c.loop-i.i + 16 = omega arith in
    rw next (nowhere_joined test c.args.start at (at + 16) c.loop-i.invariant
    (no_mark test at 16 c.least_at-marks.result (at + 16) c.least_at-marks.ensures c.if-marks-ne0.false (omega arith)))
