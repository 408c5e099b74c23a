use Rattle.std.proofs.Common.{◌≡◌, ◌+◌, ◌*◌, ◌++◌, length, take}
use Rattle.hex.specs.Hex.{encode_lower}
use Rattle.store_commands.proofs.whole.put_hex.Given as goal

-- what stands in the buffer and the digits of the rest are what is to stand there
abbrev pub invariant-loop-rest : goal.invariant-loop-rest
invariant-loop-rest l = record {
  text : take l.at l.into ++ encode_lower l.rest ≡ take l.fn.at l.fn.into ++ encode_lower l.fn.bytes;
  room : l.at + 2 * length l.rest ≡ l.fn.at + 2 * length l.fn.bytes;
}

abbrev pub decreases-loop-rest : goal.decreases-loop-rest
decreases-loop-rest l = length l.rest
