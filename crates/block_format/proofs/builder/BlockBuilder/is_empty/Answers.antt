use Rattle.std.proofs.Common.{[], ℕ, List, length, sym, ap, ◌∙◌}
use Rattle.std.specs.Prelude.{◌==◌}
use Rattle.entry_model.specs.Entries.{Entry}
use Rattle.block_format.proofs.Builders.{many_in}
use Rattle.block_format.proofs.builder.BlockBuilder.is_empty.Goals as goal

pub returns : goal.returns
returns c =
    ap (λ (n : ℕ). n == 0) (sym (many_in c.self.inside.count [] c.self.inside.bytes.items)) ∙ ap (λ (es : List Entry). length es == 0) c.self.view_is
