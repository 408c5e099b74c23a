use Rattle.std.proofs.Common.{ℕ, length, sym, ap, ◌∙◌}
use Rattle.std.specs.Prelude.{◌==◌}
use Rattle.table_file.specs.Walks.{BlockInHand}
use Rattle.table_file.proofs.Helds.{many_walked}
use Rattle.table_file.proofs.block_buffer.HeldBlock.is_empty.Goals as goal

pub returns : goal.returns
returns c =
    ap (λ (n : ℕ). n == 0) (sym (many_walked c.self.inside.walk c.self.inside.key.items c.self.inside.bytes.items))
    ∙ ap (λ (h : BlockInHand). length h.later == 0) c.self.view_is
