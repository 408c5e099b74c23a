use Rattle.std.proofs.Common.{◌≡◌, ◌++◌, ◌+◌, ◌-◌, ◌≤◌, replicate}
use Rattle.std.specs.Prelude.{vec_len, vec_capacity}
use Rattle.block_format.proofs.appending.append_zeros.Given as goal

abbrev pub invariant-loop : goal.invariant-loop
invariant-loop l = (l.out.items ≡ l.initial.out.items ++ replicate l.counter 0) × (vec_len l.out + (l.count - l.counter) ≤ vec_capacity l.out)
