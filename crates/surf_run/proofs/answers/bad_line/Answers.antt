use Rattle.std.proofs.Common.{refl, arith}
use Rattle.line_model.specs.Replies.{BadLine}
use Rattle.line_model.specs.Requests.{Bad}
use Rattle.store_core.specs.Answers.{HasCause}
use Rattle.surf_run.specs.Kind.{filter_kind}
use Rattle.surf_run.proofs.Calms.{asks_answers, bad_step}
use Rattle.surf_run.proofs.answers.bad_line.Goals as goal

pub returns : goal.returns
returns g c =
    let kind = filter_kind g.F.RangeFilter.spelling g.F.RangeFilter.built_cutoff in
    let a = g.W.Disk.world c.args.out.now in
    let b = g.W.Disk.world c.say_reply.new.out in
    asks_answers kind g.W.Disk.tells g.W.Outside.tells_output (Bad c.args.code) c.args.store.now c.say_reply.result a b c.requires.running c.consistency_law.ensures.slot (g.met.W.Outside.said_now c.args.out.now)
    c.say_reply.ensures.moves c.say_reply.ensures.cause
    (λ s tells output tied. (BadLine c.args.code, bad_step (HasCause a a) kind.filter_bytes s c.args.code (BadLine c.args.code) refl, refl, c.say_reply.ensures.says output (omega arith)))
