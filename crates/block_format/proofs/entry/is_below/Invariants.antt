use Rattle.std.proofs.Common.{◌≡◌, ◌*◌, drop}
use Rattle.map_model.specs.SortedMap.{byte_order}
use Rattle.block_format.proofs.entry.is_below.Given as goal

abbrev pub invariant-loop-word : goal.invariant-loop-word
invariant-loop-word l = byte_order l.low l.high ≡ byte_order (drop (8 * l.word) l.low) (drop (8 * l.word) l.high)
