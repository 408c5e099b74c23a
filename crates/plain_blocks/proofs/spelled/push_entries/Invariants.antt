use Rattle.std.proofs.Common.{◌≡◌, ◌++◌, [], drop}
use Rattle.block_model.specs.Bodies.{entries_bytes}
use Rattle.plain_blocks.proofs.spelled.push_entries.Given as goal

-- what is written and the entries that are left make all entries
abbrev pub invariant-loop-i : goal.invariant-loop-i
invariant-loop-i l =
    l.out.items ++ entries_bytes l.i l.before (drop l.i l.block) ≡ l.initial.out.items ++ entries_bytes 0 [] l.block
