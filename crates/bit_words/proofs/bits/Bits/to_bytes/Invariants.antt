use Rattle.std.proofs.Common.{◌≡◌, ◌+◌, ◌-◌, ◌≤◌, ◌++◌, take}
use Rattle.std.specs.Vec.{vec_len, vec_capacity}
use Rattle.bit_model.specs.Packed.{packed}
use Rattle.bit_words.proofs.bits.Bits.to_bytes.Given as goal

abbrev pub invariant-loop-k : goal.invariant-loop-k
invariant-loop-k g l = record {
  written : l.out.items ≡ l.initial.out.items ++ take l.k (packed 8 l.self);
  room : vec_len l.out + (l.count - l.k) ≤ vec_capacity l.out;
}
