use Rattle.std.proofs.Common.{◌∙◌, ◌-◌, ℕ, [], ap, get_or}
use Rattle.table_file.proofs.Keys.{last_is}
use Rattle.table_file.proofs.builder.last_of.Goals as goal

pub returns : goal.returns
returns c front back some same =
    c.get.ensures ∙ ap (λ (n : ℕ). get_or c.args.keys.now (n - 1) []) c.len.ensures ∙ last_is front back c.args.keys.now some same
