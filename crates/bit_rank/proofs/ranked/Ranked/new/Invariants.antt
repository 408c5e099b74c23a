use Rattle.std.proofs.Common.{◌≡◌, ◌*◌, ◌≤◌, map}
use Rattle.std.specs.List.{range_with_len}
use Rattle.std.specs.Vec.{vec_capacity}
use Rattle.bit_words.specs.Counts.{rank_of}
use Rattle.bit_rank.proofs.ranked.Ranked.new.Given as goal

abbrev pub invariant-loop-k : goal.invariant-loop-k
invariant-loop-k g l = record {
  counted : l.count ≡ rank_of l.bits (128 * l.k);
  kept : l.counts.items ≡ map (λ k. rank_of l.bits (128 * k)) (range_with_len 0 l.k);
  room : l.blocks ≤ vec_capacity l.counts;
}
