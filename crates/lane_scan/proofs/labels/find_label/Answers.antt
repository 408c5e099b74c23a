use Rattle.std.proofs.Common.{◌==◌}
use Rattle.lane_scan.proofs.Firsts.{position_is}
use Rattle.lane_scan.proofs.labels.find_label.Goals as goal

pub returns-then-bytes-lt-GROUP : goal.returns-then-bytes-lt-GROUP
returns-then-bytes-lt-GROUP c = position_is (λ byte. byte == c.args.label) c.args.bytes.now c.label_by_bytes.result c.label_by_bytes.ensures

pub returns-else-bytes-lt-GROUP : goal.returns-else-bytes-lt-GROUP
returns-else-bytes-lt-GROUP c = position_is (λ byte. byte == c.args.label) c.args.bytes.now c.find_label_between.result c.find_label_between.ensures
