use Rattle.std.proofs.Common.{◌≡◌, ◌≤◌, ◌<◌, ◌-◌, ◌+◌, length}
use Rattle.std.specs.Prelude.{Some}
use Rattle.fst_map.specs.Places.{moved}
use Rattle.fst_run.proofs.RangeSteps.{SaidSoFar}
use Rattle.fst_run.proofs.ranges.say_pairs.Given as goal

-- so many pairs were said or wait to be said, and the cursor is at the one after them
abbrev pub invariant-loop-count : goal.invariant-loop-count
invariant-loop-count g l = record {
  place : l.cursor ≡ moved l.fn.cursor (l.fn.cursor.number + l.count);
  few : l.count ≤ l.fn.most;
  room : l.used < length l.buffer;
  so_far : SaidSoFar g.W.Outside.tells_output (Some l.fn.hi) l.fn.cursor (g.W.Disk.world l.fn.out) l.count l.used l.buffer (g.W.Disk.world l.out);
}

-- fewer pairs may come
abbrev pub decreases-loop-count : goal.decreases-loop-count
decreases-loop-count g l = l.fn.most - l.count
