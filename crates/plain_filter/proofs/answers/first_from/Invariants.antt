use Rattle.std.proofs.Common.{◌≡◌, drop, not}
use Rattle.std.specs.List.{position_from}
use Rattle.filter_model.specs.Answers.{is_past}
use Rattle.plain_filter.proofs.answers.first_from.Given as goal

-- all leaves passed are past lo
abbrev pub invariant-loop-i : goal.invariant-loop-i
invariant-loop-i l =
    position_from (λ f. not (is_past l.real_bits l.lo f)) 0 l.leaves ≡ position_from (λ f. not (is_past l.real_bits l.lo f)) l.i (drop l.i l.leaves)
