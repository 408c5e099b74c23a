use Rattle.std.proofs.Common.{◌≡◌, ◌+◌, ◌≤◌, drop}
use Rattle.std.specs.Prelude.{count_by}
use Rattle.filter_model.specs.Answers.{meets}
use Rattle.plain_filter.proofs.answers.count_meeting.Given as goal

-- of the leaves passed so many meet the range
abbrev pub invariant-loop-i : goal.invariant-loop-i
invariant-loop-i l =
    (count_by (meets l.real_bits l.lo l.hi) l.leaves ≡ l.count + count_by (meets l.real_bits l.lo l.hi) (drop l.i l.leaves)) × (l.count ≤ l.i)
