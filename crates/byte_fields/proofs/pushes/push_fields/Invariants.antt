use Rattle.std.proofs.Common.{◌≡◌, ◌≤◌, ◌+◌, ◌*◌, ◌-◌, ◌++◌, drop}
use Rattle.std.specs.Prelude.{vec_len, vec_capacity}
use Rattle.byte_fields.specs.Fields.{fields}
use Rattle.byte_fields.proofs.pushes.push_fields.Given as goal

-- what is written and what is left make all fields, and there is room for what is left
abbrev pub invariant-loop-i : goal.invariant-loop-i
invariant-loop-i l = record {
  written : l.out.items ++ fields (drop l.i l.widths) (drop l.i l.numbers) ≡ l.initial.out.items ++ fields l.widths l.numbers;
  room : vec_len l.out + 8 * (l.count - l.i) ≤ vec_capacity l.out;
}
