use Rattle.std.proofs.Common.{◌≡◌, drop}
use Rattle.std.specs.List.{list_any}
use Rattle.filter_model.specs.Answers.{meets}
use Rattle.plain_filter.proofs.answers.any_meets.Given as goal

-- none of the leaves passed meets the range
abbrev pub invariant-loop-i : goal.invariant-loop-i
invariant-loop-i l = list_any (meets l.real_bits l.lo l.hi) l.leaves ≡ list_any (meets l.real_bits l.lo l.hi) (drop l.i l.leaves)
