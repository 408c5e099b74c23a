use Rattle.std.proofs.Common.{◌≡◌, ◌*◌, take}
use Rattle.byte_fields.specs.Sums.{fnv_of}
use Rattle.table_file.proofs.sum_four_blocks.fnv1a_four.Given as goal

abbrev pub invariant-loop-turn : goal.invariant-loop-turn
invariant-loop-turn l = record {
  one : l.one ≡ fnv_of (take (8 * l.turn) l.first);
  two : l.two ≡ fnv_of (take (8 * l.turn) l.second);
  three : l.three ≡ fnv_of (take (8 * l.turn) l.third);
  four : l.four ≡ fnv_of (take (8 * l.turn) l.fourth);
}
