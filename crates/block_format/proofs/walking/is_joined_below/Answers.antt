use Rattle.std.proofs.Common.{arith}
use Rattle.std.specs.Prelude.{◌==◌}
use Rattle.std.proofs.lemmas.List.Sums.{common_prefix_len-le}
use Rattle.block_format.proofs.walking.is_joined_below.Goals as goal

pub from_place-requires : goal.from_place-requires
from_place-requires c = omega (arith, c.shared-common.ensures, (common_prefix_len-le (λ x y. x == y) c.args.front.now c.args.key.now).1)
