use Rattle.std.proofs.Common.{◌≡◌, ◌∙◌, ◌++◌, false, sym}
use Rattle.std.specs.Prelude.{Result, Ok, Err, OnOk, is_err}
use Rattle.store_report.proofs.Parts.{prefix_of_more, prefix_on, said_on}
use Rattle.surf_run.specs.Open.{opening_text}
use Rattle.surf_run.proofs.Openings.{not_six}
use Rattle.surf_run.proofs.Readings.{of_ok}
use Rattle.surf_run.proofs.dumping.say_why_after.Goals as goal

pub returns-then-is_err-clause-prefix : goal.returns-then-is_err-clause-prefix
returns-then-is_err-clause-prefix g c tells = prefix_of_more c.args.waits.now (opening_text c.args.why) _ _ (c.say_all.ensures.prefix tells)

pub returns-clause-said : goal.returns-clause-said
returns-clause-said g c tells same =
    let waits = of_ok c.say_all.result _ (sym c.is_err.ensures.value ∙ c.if-is_err.false) (c.say_all.ensures.said tells) in
    said_on c.args.waits.now (opening_text c.args.why) _ _ _ waits (c.say_why.ensures.said tells (λ six. not_six c.args.why c.requires (sym same ∙ six)))

pub returns-clause-prefix : goal.returns-clause-prefix
returns-clause-prefix g c tells =
    let waits = of_ok c.say_all.result _ (sym c.is_err.ensures.value ∙ c.if-is_err.false) (c.say_all.ensures.said tells) in
    prefix_on c.args.waits.now (opening_text c.args.why) _ _ _ waits (c.say_why.ensures.prefix tells)
