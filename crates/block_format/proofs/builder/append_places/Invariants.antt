use Rattle.std.proofs.Common.{◌≡◌, ◌≤◌, ◌+◌, ◌*◌, ◌++◌, drop}
use Rattle.std.specs.Prelude.{vec_len, vec_capacity}
use Rattle.block_format.specs.Building.{places_bytes}
use Rattle.block_format.proofs.builder.append_places.Given as goal

-- what is written and the places that are left make all of them
abbrev pub invariant-loop-i : goal.invariant-loop-i
invariant-loop-i l = record {
  items : l.out.items ++ places_bytes l.from (drop l.i l.places) ≡ l.initial.out.items ++ places_bytes l.from l.places;
  len : vec_len l.out ≡ vec_len l.initial.out + 2 * l.i;
  capacity : vec_capacity l.initial.out ≤ vec_capacity l.out;
}
