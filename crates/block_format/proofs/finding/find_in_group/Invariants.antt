use Rattle.block_format.proofs.Close.{IsReached}
use Rattle.block_format.proofs.finding.find_in_group.Given as goal

abbrev pub invariant-loop-i : goal.invariant-loop-i
invariant-loop-i l = IsReached l.count l.i l.at l.common l.key l.rest
