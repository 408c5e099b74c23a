use Rattle.std.proofs.Common.{◌≡◌, ◌==◌, ◌+◌, drop}
use Rattle.std.specs.List.{common_prefix_len}
use Rattle.key_base.proofs.order.shared.Given as goal

-- the bytes passed are alike, so what is shared is these and what the rests share
abbrev pub invariant-loop-i : goal.invariant-loop-i
invariant-loop-i l = common_prefix_len (λ x y. x == y) l.a l.b ≡ l.i + common_prefix_len (λ x y. x == y) (drop l.i l.a) (drop l.i l.b)
