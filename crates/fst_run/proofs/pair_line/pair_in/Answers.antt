use Rattle.std.proofs.Common.{arith}
use Rattle.fst_run.proofs.pair_line.pair_in.Goals as goal

pub decoded-requires-2 : goal.decoded-requires-2
decoded-requires-2 c = omega (arith, c.in-Some.ensures.sizes, c.split_at_mut-key_room.ensures.back_len)
