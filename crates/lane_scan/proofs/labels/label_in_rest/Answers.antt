use Rattle.std.proofs.Common.{ℕ, ◌-◌, ◌/◌, ◌^◌, length, arith}
use Rattle.lane_scan.specs.Places.{is_label_at}
use Rattle.lane_scan.proofs.Marks.{tells_from, no_mark, first_mark, IsLowest}
use Rattle.lane_scan.proofs.labels.label_in_rest.Goals as goal

pub returns-then-marks-eq0 : goal.returns-then-marks-eq0
returns-then-marks-eq0 c =
    let test : ℕ → _ = is_label_at c.args.section.now c.args.label in
    let last = length c.args.section.now - 16 in
    let told = tells_from test last 16 (c.args.at - last) c.labels_at.result c.args.at (omega (arith, c.requires)) (omega (arith, c.requires)) c.labels_at.ensures in
    no_mark test c.args.at (16 - (c.args.at - last)) (c.labels_at.result / 2 ^ (c.args.at - last)) c.args.end told c.if-marks-eq0.true (omega (arith, c.requires))

pub returns : goal.returns
returns c =
    let test : ℕ → _ = is_label_at c.args.section.now c.args.label in
    let last = length c.args.section.now - 16 in
    let told = tells_from test last 16 (c.args.at - last) c.labels_at.result c.args.at (omega (arith, c.requires)) (omega (arith, c.requires)) c.labels_at.ensures in
    let lowest : IsLowest _ c.lowest_one.result = record { is_set = c.lowest_one.ensures.is_set; before = c.lowest_one.ensures.before } in
    first_mark test c.args.at (16 - (c.args.at - last)) (c.labels_at.result / 2 ^ (c.args.at - last)) c.lowest_one.result c.args.end c.before_end.result told lowest c.before_end.ensures
