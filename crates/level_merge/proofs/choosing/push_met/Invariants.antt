use Rattle.std.proofs.Common.{◌≡◌, ◌++◌, map, filter, drop}
use Rattle.level_merge.specs.Outlines.{table_number, outlines, overlaps}
use Rattle.state_model.specs.Merges.{on_level}
use Rattle.level_merge.proofs.choosing.push_met.Given as goal

-- those so far and those among what is left
abbrev pub invariant-loop-place : goal.invariant-loop-place
invariant-loop-place g l = l.which.items ++ map table_number (filter (overlaps l.lo l.hi) (on_level l.level (outlines (drop l.place l.tables))))
    ≡ l.initial.which.items ++ map table_number (filter (overlaps l.lo l.hi) (on_level l.level (outlines l.tables)))
