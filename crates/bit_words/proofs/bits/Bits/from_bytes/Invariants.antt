use Rattle.std.proofs.Common.{◌≡◌, ◌≤◌, take}
use Rattle.std.specs.Vec.{vec_capacity}
use Rattle.bit_model.specs.Packed.{packed, unpacked}
use Rattle.bit_words.proofs.bits.Bits.from_bytes.Given as goal

abbrev pub invariant-loop-k : goal.invariant-loop-k
invariant-loop-k g l = record {
  read : l.words.items ≡ take l.k (packed 64 (unpacked 8 l.bytes l.len));
  room : l.count ≤ vec_capacity l.words;
}
