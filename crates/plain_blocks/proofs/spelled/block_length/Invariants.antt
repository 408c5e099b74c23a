use Rattle.std.proofs.Common.{◌≡◌, ◌≤◌, ◌+◌, ◌*◌, [], length, drop}
use Rattle.block_model.specs.Formats.{places_length}
use Rattle.block_model.specs.Bodies.{entries_bytes}
use Rattle.plain_blocks.proofs.spelled.block_length.Given as goal

-- what was added and the entries that are left make the length
abbrev pub invariant-loop-i : goal.invariant-loop-i
invariant-loop-i l =
    (l.bytes + length (entries_bytes l.i l.before (drop l.i l.block)) ≡ 8 + places_length (length l.block) + length (entries_bytes 0 [] l.block))
    × (l.bytes ≤ 8 + places_length (length l.block) + 1049609 * l.i)
