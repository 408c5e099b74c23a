use Rattle.std.proofs.Common.{◌≡◌, ◌+◌, drop, length, sum_by}
use Rattle.plain_store.proofs.pages.ranges_length.Given as goal

-- the bytes so far and those that are left
abbrev pub invariant-loop-range : goal.invariant-loop-range
invariant-loop-range l = l.bytes + sum_by (λ r. 4 + length r.lo + length r.hi) (drop l.range-index l.ranges) ≡ sum_by (λ r. 4 + length r.lo + length r.hi) l.ranges
