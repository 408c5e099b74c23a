use Rattle.std.proofs.Common.{ℕ, ap, arith, refl, sym}
use Rattle.line_model.specs.Limits.{limit_of}
use Rattle.line_model.specs.Replies.{About}
use Rattle.line_model.specs.Requests.{Estimate}
use Rattle.store_core.specs.Answers.{HasCause}
use Rattle.store_core.proofs.Tellings.{seen_as}
use Rattle.surf_run.specs.Kind.{filter_kind}
use Rattle.surf_run.proofs.Calms.{ask_told, asked_step, asks_answers, is_ask_told, refused_asks}
use Rattle.surf_run.proofs.answers.estimate_line.Goals as goal

pub returns-in-Ok : goal.returns-in-Ok
returns-in-Ok g c =
    let kind = filter_kind g.F.RangeFilter.spelling g.F.RangeFilter.built_cutoff in
    let a = g.W.Disk.world c.args.out.now in
    let b = g.W.Disk.world c.say_reply.new.out in
    asks_answers kind g.W.Disk.tells g.W.Outside.tells_output (Estimate c.args.lo.now c.args.hi.now) c.args.store.now c.say_reply.result a b c.requires.running c.consistency_law.ensures.slot (g.met.W.Outside.said_now c.args.out.now)
    c.say_reply.ensures.moves c.say_reply.ensures.cause
    (λ s tells output tied.
    let is = c.in-Ok.ensures.answer s a.seen.held (seen_as kind.spelling kind.filter_bytes c.args.store.now s a (g.met.W.Disk.current c.args.out.now tells) tied) in (
      About c.in-Ok.count,
      asked_step (HasCause a a) kind.filter_bytes s (Estimate c.args.lo.now c.args.hi.now) (About c.in-Ok.count) c.in-Ok.ensures.refused.1 (ap (λ (n : ℕ). (About n, s)) (sym is)),
      refl,
      c.say_reply.ensures.says output (omega arith),
    ))

pub say_refusal-requires-clause-told : goal.say_refusal-requires-clause-told
say_refusal-requires-clause-told g c = is_ask_told (limit_of (Estimate c.args.lo.now c.args.hi.now)) c.in-Err.why (ask_told c.in-Err.why c.args.store.now.stopped (limit_of (Estimate c.args.lo.now c.args.hi.now)) c.requires.running c.in-Err.ensures.refused)

pub returns-in-Err : goal.returns-in-Err
returns-in-Err g c =
    refused_asks (filter_kind g.F.RangeFilter.spelling g.F.RangeFilter.built_cutoff) g.W.Disk.tells g.W.Outside.tells_output (Estimate c.args.lo.now c.args.hi.now) c.in-Err.why
    (ask_told c.in-Err.why c.args.store.now.stopped (limit_of (Estimate c.args.lo.now c.args.hi.now)) c.requires.running c.in-Err.ensures.refused) c.args.store.now c.say_refusal.result (g.W.Disk.world c.args.out.now) (g.W.Disk.world c.say_refusal.new.out)
    c.requires.running c.consistency_law.ensures.slot (g.met.W.Outside.said_now c.args.out.now) c.say_refusal.ensures.moves c.say_refusal.ensures.ends (λ reply output is. c.say_refusal.ensures.says reply output is)
