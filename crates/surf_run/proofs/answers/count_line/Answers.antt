use Rattle.std.proofs.Common.{ℕ, ap, arith, refl, subst, sym}
use Rattle.line_model.specs.Limits.{limit_of}
use Rattle.line_model.specs.Replies.{Counted}
use Rattle.line_model.specs.Requests.{Count}
use Rattle.lines_in.proofs.EndCauses.{line_read, no_fall_say}
use Rattle.lines_in.specs.declared.line_end.LineEnd.TheVariants.{Next}
use Rattle.state_model.specs.Bounds.{tables_between}
use Rattle.state_model.specs.Steps.{Reads}
use Rattle.store_core.specs.Answers.{HasCause}
use Rattle.store_core.specs.Scans.{IsScanShown}
use Rattle.surf_run.specs.Kind.{filter_kind}
use Rattle.surf_run.proofs.Calms.{asked_step, said_cause, says_damage}
use Rattle.surf_run.proofs.Scans.{met_device, scan_answers, scan_cause, scan_next, scan_refused, scan_told, is_scan_told}
use Rattle.surf_run.proofs.answers.count_line.Goals as goal

pub returns-in-Ok : goal.returns-in-Ok
returns-in-Ok g c =
    let kind = filter_kind g.F.RangeFilter.spelling g.F.RangeFilter.built_cutoff in
    let a = g.W.Disk.world c.args.out.now in
    let mid = g.W.Disk.world c.count.new.disk in
    let b = g.W.Disk.world c.say_reply.new.out in
    let request = Count c.args.lo.now c.args.hi.now in
    let moves = c.count.ensures.moves in
    scan_answers kind request c.args.store.now c.say_reply.result a mid b moves (g.met.W.Outside.said_now c.args.out.now) (g.met.W.Outside.said_now c.count.new.disk) c.say_reply.ensures.moves
    g.W.Disk.tells g.W.Outside.tells_output c.requires.running
    (λ s tells output tied.
    scan_next kind request c.args.store.now c.say_reply.result a mid b moves (g.met.W.Outside.said_now c.args.out.now) (g.met.W.Outside.said_now c.count.new.disk) c.say_reply.ensures.moves
    s c.consistency_law.ensures.slot tied (λ never. absurd never) (Counted c.in-Ok.count)
    (asked_step (HasCause a mid) kind.filter_bytes s request (Counted c.in-Ok.count) c.in-Ok.ensures.refused.1 (ap (λ (n : ℕ). (Counted n, s)) (sym (c.in-Ok.ensures.answer s tells tied))))
    refl (c.say_reply.ensures.says output (omega arith)))
    (said_cause c.say_reply.result Next a mid b c.say_reply.ensures.cause _ tt (line_read moves.0 a mid moves.1).counts)

pub say_refusal-requires-clause-told : goal.say_refusal-requires-clause-told
say_refusal-requires-clause-told g c =
    let a = g.W.Disk.world c.args.out.now in
    let mid = g.W.Disk.world c.count.new.disk in
    let broken = limit_of (Count c.args.lo.now c.args.hi.now) in
    is_scan_told broken a mid c.in-Err.why (scan_told c.in-Err.why c.args.store.now.stopped broken a mid c.requires.running c.in-Err.ensures.refused)

pub returns-in-Err : goal.returns-in-Err
returns-in-Err g c =
    let kind = filter_kind g.F.RangeFilter.spelling g.F.RangeFilter.built_cutoff in
    let a = g.W.Disk.world c.args.out.now in
    let mid = g.W.Disk.world c.count.new.disk in
    let b = g.W.Disk.world c.say_refusal.new.out in
    let request = Count c.args.lo.now c.args.hi.now in
    let moves = c.count.ensures.moves in
    let why = c.in-Err.why in
    let told = scan_told why c.args.store.now.stopped (limit_of request) a mid c.requires.running c.in-Err.ensures.refused in
    scan_answers kind request c.args.store.now c.say_refusal.result a mid b moves (g.met.W.Outside.said_now c.args.out.now) (g.met.W.Outside.said_now c.count.new.disk) c.say_refusal.ensures.moves
    g.W.Disk.tells g.W.Outside.tells_output c.requires.running
    (λ s tells output tied.
    scan_refused kind request c.args.store.now c.say_refusal.result a mid b moves (g.met.W.Outside.said_now c.args.out.now) (g.met.W.Outside.said_now c.count.new.disk) c.say_refusal.ensures.moves
    s c.consistency_law.ensures.slot tied (λ never. absurd never) why told (c.in-Err.ensures.undamaged s tells tied) refl tt refl
    (met_device (Reads s request) (tables_between s c.args.lo.now c.args.hi.now) why (λ some. some) (c.in-Err.ensures.only_if_read s tells tied)) (λ reply is. c.say_refusal.ensures.says reply output is))
    (scan_cause _ (limit_of request) why c.say_refusal.result a mid b told c.say_refusal.ensures.ends (line_read moves.0 a mid moves.1).counts (no_fall_say mid b c.say_refusal.ensures.moves)
    (λ ends five tell. says_damage c.args.store.now.tables request why c.say_refusal.result a.seen.held mid b
    (λ d is. subst (IsScanShown c.args.store.now.tables a.seen.held) is (c.in-Err.ensures.shown tell.0)) moves.1.held c.say_refusal.ensures.moves.seen (λ reply is. c.say_refusal.ensures.says reply tell.1 is) ends five))
