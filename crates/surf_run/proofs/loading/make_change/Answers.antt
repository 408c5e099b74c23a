use Rattle.std.proofs.Common.{◌∙◌, Ok, Err, refl, sym, true, false}
use Rattle.entry_model.specs.Entries.{entry_of}
use Rattle.line_model.specs.Limits.{limit_of}
use Rattle.line_model.specs.Replies.{Done}
use Rattle.surf_run.specs.Kind.{filter_kind}
use Rattle.surf_run.specs.Loads.{change_of}
use Rattle.surf_run.proofs.LoadChanges.{change_ended, change_made, other_opens, other_refusal, passed_reply}
use Rattle.surf_run.proofs.loading.make_change.Goals as goal

pub returns-in-Ok : goal.returns-in-Ok
returns-in-Ok g c =
    change_made (filter_kind g.F.RangeFilter.spelling g.F.RangeFilter.built_cutoff) g.W.Disk.tells g.W.Outside.tells_output (entry_of c.args.step.key c.args.step.value) (Ok c.in-Ok.field-0) c.args.store.now
    c.write_step-written.new.store (g.W.Disk.world c.args.out.now) (g.W.Disk.world c.write_step-written.new.out) c.in-Ok.ensures.stopped c.consistency_law.ensures.slot c.in-Ok.ensures.moves
    (g.met.W.Outside.said_now c.args.out.now) (λ tells. g.met.W.Disk.current c.args.out.now tells) c.in-Ok.ensures.pages (λ s tells tied. c.in-Ok.ensures.answered s tells tied) true Done refl refl refl

pub returns-then-is_passed_over : goal.returns-then-is_passed_over
returns-then-is_passed_over g c =
    let passed = passed_reply c.in-Err.why (sym c.is_passed_over.ensures ∙ c.if-is_passed_over.true) in
    change_made (filter_kind g.F.RangeFilter.spelling g.F.RangeFilter.built_cutoff) g.W.Disk.tells g.W.Outside.tells_output (entry_of c.args.step.key c.args.step.value) {T = Unit {0}} (Err c.in-Err.why) c.args.store.now
    c.write_step-written.new.store (g.W.Disk.world c.args.out.now) (g.W.Disk.world c.write_step-written.new.out) c.in-Err.ensures.stopped c.consistency_law.ensures.slot c.in-Err.ensures.moves
    (g.met.W.Outside.said_now c.args.out.now) (λ tells. g.met.W.Disk.current c.args.out.now tells) c.in-Err.ensures.pages (λ s tells tied. c.in-Err.ensures.answered s tells tied) false passed.0 passed.1 passed.2 passed.3

pub returns-else-is_passed_over : goal.returns-else-is_passed_over
returns-else-is_passed_over g c =
    let a = g.W.Disk.world c.args.out.now in
    let mid = g.W.Disk.world c.write_step-written.new.out in
    let other = other_refusal c.in-Err.why c.args.store.now.stopped (limit_of (change_of (entry_of c.args.step.key c.args.step.value))) a mid c.requires.running c.in-Err.ensures.refused (sym c.is_passed_over.ensures ∙ c.if-is_passed_over.false) in
    change_ended (filter_kind g.F.RangeFilter.spelling g.F.RangeFilter.built_cutoff) g.W.Disk.tells g.W.Outside.tells_output (entry_of c.args.step.key c.args.step.value) {T = Unit {0}} (Err c.in-Err.why) c.args.store.now
    c.write_step-written.new.store a mid c.in-Err.ensures.stopped c.consistency_law.ensures.slot c.in-Err.ensures.moves
    (g.met.W.Outside.said_now c.args.out.now) (λ tells. g.met.W.Disk.current c.args.out.now tells) c.in-Err.ensures.pages (λ s tells tied. c.in-Err.ensures.answered s tells tied) c.in-Err.why refl other (g.W.Disk.world c.say_why.new.out)
    c.say_why.result (g.met.W.Outside.said_now c.write_step-written.new.out) c.say_why.ensures.moves c.say_why.ensures.ends c.say_why.ensures.said c.say_why.ensures.prefix

pub say_why-requires : goal.say_why-requires
say_why-requires g c =
    let a = g.W.Disk.world c.args.out.now in
    let mid = g.W.Disk.world c.write_step-written.new.out in
    other_opens a mid c.in-Err.why
    (other_refusal c.in-Err.why c.args.store.now.stopped (limit_of (change_of (entry_of c.args.step.key c.args.step.value))) a mid c.requires.running c.in-Err.ensures.refused (sym c.is_passed_over.ensures ∙ c.if-is_passed_over.false))
