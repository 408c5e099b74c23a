use Rattle.std.proofs.Common.{◌≡◌, ◌≤◌, ◌+◌, ◌*◌, ◌++◌, [], length, drop}
use Rattle.block_model.specs.Formats.{places_length}
use Rattle.plain_blocks.proofs.Loops.{list_left}
use Rattle.plain_blocks.proofs.spelled.push_list.Given as goal

-- what is written and the places of the entries that are left make the list
abbrev pub invariant-loop-i : goal.invariant-loop-i
invariant-loop-i l =
    (l.out.items ++ list_left l.i l.place l.before (drop l.i l.block) ≡ l.initial.out.items ++ list_left 0 (8 + places_length (length l.block)) [] l.block)
    × (l.place ≤ 8 + places_length (length l.block) + 1049609 * l.i)
