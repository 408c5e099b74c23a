use Rattle.mem_table.proofs.Fills.{Kept}
use Rattle.mem_table.proofs.filling.keep_last.Given as goal

-- the last of each key of the entries so far stand at the front
abbrev pub invariant-loop-i : goal.invariant-loop-i
invariant-loop-i l = Kept l.fn.entries.items l.entries.items l.i l.kept
