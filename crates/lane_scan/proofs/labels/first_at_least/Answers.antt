use Rattle.std.proofs.Common.{nat_le}
use Rattle.lane_scan.proofs.Firsts.{position_is}
use Rattle.lane_scan.proofs.labels.first_at_least.Goals as goal

pub returns-then-bytes-lt-GROUP : goal.returns-then-bytes-lt-GROUP
returns-then-bytes-lt-GROUP c = position_is (λ byte. nat_le c.args.label byte) c.args.bytes.now c.least_by_bytes.result c.least_by_bytes.ensures

pub returns-else-bytes-lt-GROUP : goal.returns-else-bytes-lt-GROUP
returns-else-bytes-lt-GROUP c = position_is (λ byte. nat_le c.args.label byte) c.args.bytes.now c.first_at_least_between.result c.first_at_least_between.ensures
