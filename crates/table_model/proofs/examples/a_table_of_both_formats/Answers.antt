use Rattle.std.proofs.Common.{ℕ, zero, suc, ◌<◌, List, [], ◌∷◌, arith, refl}
use Rattle.byte_fields.specs.Spelling.{IsBytes}
use Rattle.block_model.specs.Block.{IsBlock, block_bytes, header_bytes, list_bytes}
use Rattle.block_model.specs.Bodies.{entries_bytes, listed_places}
use Rattle.block_model.specs.BlockReading.{block_fault_by, block_in_by, entries_fault_by, entries_part_by, entry_fault_by, header_fault_by, tail_fault}
use Rattle.block_model.specs.Examples.{a_b}
use Rattle.block_model.specs.Formats.{Old, Prefixed, entries_by, key_by, value_by, width_by}
use Rattle.block_model.specs.OldBlock.{old_block_bytes, old_block_length, old_header_bytes}
use Rattle.block_model.specs.Pages.{block_length, padding, pages_for}
use Rattle.table_model.specs.Examples.{b_and_bc}
use Rattle.table_model.proofs.examples.a_table_of_both_formats.Goals as goal

none : IsBytes []
none i = omega arith

and_one : (b : ℕ) (bytes : List ℕ) → b < 256 → IsBytes bytes → IsBytes (b ∷ bytes)
and_one b bytes lt is zero = lt
and_one b bytes lt is (suc i) = is i

one : (b : ℕ) → b < 256 → IsBytes (b ∷ [])
one b lt = and_one b [] lt none

old_is : IsBlock Old (a_b ∷ [])
unfolding old_block_length
old_is = record {
  each = (
    record {
      sound = record { some_key = omega arith; short_key = omega arith; short_value = omega arith; key_bytes = one 0x61 (omega arith); value_bytes = one 0x62 (omega arith) };
      short = omega arith;
    },
    tt,
  );
  rising = (refl, tt);
  some = omega arith;
  few = omega arith;
  small = λ more. omega (arith, more);
}

new_is : IsBlock Prefixed b_and_bc
unfolding block_length entries_bytes
new_is = record {
  each = (
    record { some_key = omega arith; short_key = omega arith; short_value = omega arith; key_bytes = one 0x62 (omega arith); value_bytes = one 0x63 (omega arith) },
    (record { some_key = omega arith; short_key = omega arith; short_value = omega arith; key_bytes = and_one 0x62 (0x63 ∷ []) (omega arith) (one 0x63 (omega arith)); value_bytes = none }, tt),
  );
  rising = (refl, (refl, tt));
  some = omega arith;
  few = omega arith;
  small = λ more. omega arith;
}

pub returns-clause-sound : goal.returns-clause-sound
unfolding old_block_bytes old_header_bytes old_block_length block_bytes header_bytes list_bytes entries_bytes listed_places block_length padding pages_for block_fault_by header_fault_by entries_part_by entries_fault_by entry_fault_by entries_by key_by value_by width_by tail_fault block_in_by
returns-clause-sound c = (record { whole = refl; sound = old_is }, (record { whole = refl; sound = new_is }, tt))
