use Rattle.std.proofs.Common.{◌∙◌, sym}
use Rattle.std.proofs.lemmas.Result.{IfErr-weaker, IfOk-weaker}
use Rattle.table_file.proofs.Stands.{answer, no_answer, not_damaged}
use Rattle.table_file.proofs.table.Table.get.Goals as goal

pub returns-in_default-clause-answer : goal.returns-in_default-clause-answer
returns-in_default-clause-answer g c blocks tells s =
    sym (no_answer g.F.RangeFilter.spelling c.args.self.now blocks _ s c.args.key.now (sym c.in_default.ensures))

pub returns-clause-answer : goal.returns-clause-answer
returns-clause-answer g c blocks tells s =
    let some = sym c.block_for.ensures ∙ c.in-Some.is in
    IfOk-weaker c.find_read.result _ _ (λ found h. h ∙ answer g.F.RangeFilter.spelling c.args.self.now blocks _ s c.args.key.now c.in-Some.n some _ (c.in_ok-size.ensures.bytes tells)) c.find_read.ensures.said

pub returns-clause-undamaged : goal.returns-clause-undamaged
returns-clause-undamaged g c blocks tells s =
    let some = sym c.block_for.ensures ∙ c.in-Some.is in
    IfErr-weaker c.find_read.result _ _ (λ f damaged. not_damaged g.F.RangeFilter.spelling c.args.self.now blocks _ s c.args.key.now c.in-Some.n some _ (c.in_ok-size.ensures.bytes tells) f damaged) c.find_read.ensures.damaged
