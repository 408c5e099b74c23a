use Rattle.std.proofs.Common.{◌≡◌, ◌<◌, ℕ, slice_index, bit_and, w8}
use Rattle.std.specs.Int.{bit_not}
use Rattle.filter_codec.proofs.sections.stray_fault.Given as goal

-- no byte so far has a stray bit
abbrev pub invariant-loop-i : goal.invariant-loop-i
invariant-loop-i l = (k : ℕ) → k < l.i → bit_and (slice_index l.children k) (bit_not w8 (slice_index l.labels k)) ≡ 0
