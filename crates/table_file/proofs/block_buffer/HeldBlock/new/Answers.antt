use Rattle.std.proofs.Common.{refl, arith}
use Rattle.block_format.specs.Walking.{at_hand}
use Rattle.block_model.specs.Formats.{entries_by}
use Rattle.table_file.proofs.Helds.{no_entries, stands_nowhere}
use Rattle.table_file.proofs.block_buffer.HeldBlock.new.Goals as goal

pub invariant_of-result : goal.invariant_of-result
unfolding at_hand
invariant_of-result c =
    let items = c.in_ok-bytes.bytes.items in
    let key = c.in_ok-key.key.items in
    (omega (arith, c.in_ok-bytes.ensures.capacity), omega (arith, c.in_ok-key.ensures.len), stands_nowhere key items, tt, tt, no_entries key items)

pub returns : goal.returns
unfolding at_hand entries_by
returns c = refl
