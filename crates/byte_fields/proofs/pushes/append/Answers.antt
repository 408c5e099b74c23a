use Rattle.std.proofs.Common.{rules, take, ap, ◌∙◌}
use Rattle.byte_fields.proofs.PushLemmas.{take-little_bytes}
use Rattle.byte_fields.proofs.pushes.append.Goals as goal

pub returns-clause-added : goal.returns-clause-added
returns-clause-added c =
    let part = ap (take c.args.width) c.to_le_bytes-bytes.ensures ∙ take-little_bytes c.args.width c.args.number c.requires.width in
    rw (← part) (search rules)
