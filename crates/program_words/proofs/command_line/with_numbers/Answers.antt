use Rattle.std.proofs.Common.{◌∙◌, ap, codes}
use Rattle.std.proofs.lemmas.Result.{IfOk-weaker}
use Rattle.clap.specs.Simple.{App, with_rule}
use Rattle.program_words.specs.CommandLine.{number_rule, with_default}
use Rattle.program_words.proofs.command_line.with_numbers.Goals as goal

pub returns-clause-app : goal.returns-clause-app
returns-clause-app c =
    IfOk-weaker c.with_number-3.result _ _
    (λ r is. is ∙ ap (λ (a : App). with_rule a (with_default (codes "64") (number_rule (codes "ratio"))))
    (c.in_ok-with_real_bits.ensures.app ∙ ap (λ (a : App). with_rule a (with_default (codes "8") (number_rule (codes "real-bits")))) c.in_ok-with_hash_bits.ensures.app))
    c.with_number-3.ensures.app
