use Rattle.std.proofs.Common.{◌≡◌, ◌+◌, ◌-◌, ◌*◌, drop}
use Rattle.std.specs.List.{position_or_len}
use Rattle.std.specs.Prelude.{◌==◌, not}
use Rattle.block_format.proofs.old_block.behind_zeros.Given as goal

abbrev pub invariant-loop-word : goal.invariant-loop-word
invariant-loop-word l = position_or_len (λ b. not (b == 0)) (drop l.from l.bytes)
    ≡ (l.from + 8 * l.word - l.from) + position_or_len (λ b. not (b == 0)) (drop (l.from + 8 * l.word) l.bytes)
