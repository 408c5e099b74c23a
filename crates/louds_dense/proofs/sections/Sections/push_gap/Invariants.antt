use Rattle.std.proofs.Common.{◌≡◌}
use Rattle.louds_dense.specs.Building.{with_gap}
use Rattle.louds_dense.proofs.sections.Sections.push_gap.Given as goal

-- the bytes so far
abbrev pub invariant-loop : goal.invariant-loop
invariant-loop g l = l.self ≡ with_gap l.counter l.fn.self
