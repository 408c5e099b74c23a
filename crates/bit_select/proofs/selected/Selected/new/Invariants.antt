use Rattle.std.proofs.Common.{◌≡◌, ◌*◌, ◌≤◌, length}
use Rattle.std.specs.Int.{div_ceil}
use Rattle.std.specs.Int.RustNames.{count_ones}
use Rattle.std.specs.List.{sum_by}
use Rattle.std.specs.Vec.{vec_capacity}
use Rattle.bit_words.specs.Counts.{rank_of}
use Rattle.bit_select.specs.Place.{IsSampled}
use Rattle.bit_select.proofs.selected.Selected.new.Given as goal

abbrev pub invariant-loop-i : goal.invariant-loop-i
invariant-loop-i g l = record {
  counted : l.before ≡ rank_of l.fn.bits (64 * l.i);
  due : l.next ≡ 64 * length l.samples.items;
  sampled : IsSampled 64 l.fn.bits (64 * l.i) l.samples.items;
  room : div_ceil (sum_by count_ones l.words) 64 ≤ vec_capacity l.samples;
}
