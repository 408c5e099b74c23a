use Rattle.std.proofs.Common.{◌≡◌, drop}
use Rattle.mem_table.specs.Changes.{clears_one}
use Rattle.mem_table.proofs.filling.clears_one.Given as goal

-- none so far clears a range
abbrev pub invariant-loop-change : goal.invariant-loop-change
invariant-loop-change l = clears_one (drop l.change-index l.changes) ≡ clears_one l.changes
