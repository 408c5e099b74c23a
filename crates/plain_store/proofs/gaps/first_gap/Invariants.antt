use Rattle.std.proofs.Common.{◌≡◌, ◌++◌, nat_le, filter, drop}
use Rattle.extent_model.specs.Gaps.{room_at}
use Rattle.plain_store.proofs.gaps.first_gap.Given as goal

-- those so far and those among what is left
abbrev pub invariant-loop-start : goal.invariant-loop-start
invariant-loop-start l = l.holding.items ++ filter (λ page. nat_le l.need (room_at l.pages l.extents page)) (drop l.start-index l.start-items) ≡ filter (λ page. nat_le l.need (room_at l.pages l.extents page)) l.start-items
