use Rattle.std.proofs.Common.{◌∙◌, List, ℕ, Bor, ap, arith, refl, subst, sym}
use Rattle.std.specs.Option.{option_map}
use Rattle.line_model.specs.Limits.{limit_of}
use Rattle.line_model.specs.Replies.{found}
use Rattle.line_model.specs.Requests.{Seek}
use Rattle.lines_in.proofs.EndCauses.{line_read, no_fall_none, no_fall_say}
use Rattle.lines_in.specs.declared.line_end.LineEnd.TheVariants.{Next}
use Rattle.map_model.specs.Slices.{between}
use Rattle.state_model.specs.Steps.{Reads}
use Rattle.state_model.specs.View.{state_map}
use Rattle.store_core.specs.Answers.{HasCause}
use Rattle.store_core.specs.Scans.{IsScanShown}
use Rattle.store_core.proofs.ScanCounts.{scan_count, scan_undamaged, step_count}
use Rattle.store_core.proofs.Tellings.{seen_as}
use Rattle.surf_run.specs.Kind.{filter_kind}
use Rattle.surf_run.proofs.Calms.{asked_step, said_cause, says_damage}
use Rattle.surf_run.proofs.Scans.{bounded_seek, found_onward, if_device, is_scan_told, may_seek, never_damaged, no_device, no_reads, scan_answers, scan_cause, scan_next, scan_refused, scan_told}
use Rattle.surf_run.proofs.answers.seek_line.Goals as goal

pub returns-in-Ok-advance : goal.returns-in-Ok-advance
returns-in-Ok-advance g c =
    let kind = filter_kind g.F.RangeFilter.spelling g.F.RangeFilter.built_cutoff in
    let a = g.W.Disk.world c.args.out.now in
    let mid = g.W.Disk.world c.advance.new.disk in
    let b = g.W.Disk.world c.say_found.new.out in
    let high = option_map (λ (bound : Bor (List ℕ)). bound.now) c.args.hi in
    let request = Seek c.args.lo.now high in
    let moves = c.advance.ensures.moves in
    let pair = option_map (λ (p : Bor (List ℕ) × Bor (List ℕ)). (p.0.now, p.1.now)) c.pair.result in
    scan_answers kind request c.args.store.now c.say_found.result a mid b moves (g.met.W.Outside.said_now c.args.out.now) (g.met.W.Outside.said_now c.advance.new.disk) c.say_found.ensures.moves
    g.W.Disk.tells g.W.Outside.tells_output c.requires.running
    (λ s tells output tied.
    let seen = seen_as kind.spelling kind.filter_bytes c.args.store.now s a (g.met.W.Disk.current c.args.out.now tells) tied in
    let pairs = between (state_map s) c.args.lo.now high in
    let shows = c.in-Ok.ensures.shows s a.seen.held seen in
    scan_next kind request c.args.store.now c.say_found.result a mid b moves (g.met.W.Outside.said_now c.args.out.now) (g.met.W.Outside.said_now c.advance.new.disk) c.say_found.ensures.moves
    s c.consistency_law.ensures.slot tied
    (bounded_seek s c.args.lo.now high a mid _ (c.advance.ensures.bounded pairs tells shows) (λ hi is. c.in-Ok.ensures.bounded s a.seen.held hi seen is)) (found pair)
    (asked_step (HasCause a mid) kind.filter_bytes s request (found pair) c.in-Ok.ensures.refused.1 (ap (λ o. (found o, s)) (sym (c.pair.ensures.now ∙ (c.in-Ok-advance.ensures.pairs pairs tells shows).0))))
    (found_onward pair) (c.say_found.ensures.says output))
    (said_cause c.say_found.result Next a mid b c.say_found.ensures.cause _ tt (line_read moves.0 a mid moves.1).counts)

pub say_refusal-requires-clause-told : goal.say_refusal-requires-clause-told
say_refusal-requires-clause-told g c =
    let a = g.W.Disk.world c.args.out.now in
    let mid = g.W.Disk.world c.advance.new.disk in
    let broken = limit_of (Seek c.args.lo.now (option_map (λ (bound : Bor (List ℕ)). bound.now) c.args.hi)) in
    is_scan_told broken a mid c.in-Err-advance.why
    (scan_told c.in-Err-advance.why c.args.store.now.stopped broken a mid c.requires.running (step_count c.args.store.now.stopped broken a a mid c.in-Err-advance.why (omega arith) c.in-Ok.ensures.refused c.in-Err-advance.ensures.refused))

pub returns-in-Ok : goal.returns-in-Ok
returns-in-Ok g c =
    let kind = filter_kind g.F.RangeFilter.spelling g.F.RangeFilter.built_cutoff in
    let a = g.W.Disk.world c.args.out.now in
    let mid = g.W.Disk.world c.advance.new.disk in
    let b = g.W.Disk.world c.say_refusal.new.out in
    let high = option_map (λ (bound : Bor (List ℕ)). bound.now) c.args.hi in
    let request = Seek c.args.lo.now high in
    let moves = c.advance.ensures.moves in
    let why = c.in-Err-advance.why in
    let broken = limit_of request in
    let told = scan_told why c.args.store.now.stopped broken a mid c.requires.running (step_count c.args.store.now.stopped broken a a mid why (omega arith) c.in-Ok.ensures.refused c.in-Err-advance.ensures.refused) in
    scan_answers kind request c.args.store.now c.say_refusal.result a mid b moves (g.met.W.Outside.said_now c.args.out.now) (g.met.W.Outside.said_now c.advance.new.disk) c.say_refusal.ensures.moves
    g.W.Disk.tells g.W.Outside.tells_output c.requires.running
    (λ s tells output tied.
    let seen = seen_as kind.spelling kind.filter_bytes c.args.store.now s a (g.met.W.Disk.current c.args.out.now tells) tied in
    let pairs = between (state_map s) c.args.lo.now high in
    let shows = c.in-Ok.ensures.shows s a.seen.held seen in
    scan_refused kind request c.args.store.now c.say_refusal.result a mid b moves (g.met.W.Outside.said_now c.args.out.now) (g.met.W.Outside.said_now c.advance.new.disk) c.say_refusal.ensures.moves
    s c.consistency_law.ensures.slot tied
    (bounded_seek s c.args.lo.now high a mid _ (c.advance.ensures.bounded pairs tells shows) (λ hi is. c.in-Ok.ensures.bounded s a.seen.held hi seen is)) why told
    (c.in-Err-advance.ensures.undamaged pairs tells shows) refl tt refl
    (if_device (Reads s request) why (may_seek s c.args.lo.now high _ (c.in-Ok.ensures.only_if_read s a.seen.held seen c.in-Err-advance.ensures.only_if_read.0) (c.in-Err-advance.ensures.owed pairs tells shows)
    (λ hi is. c.in-Ok.ensures.bounded s a.seen.held hi seen is))) (λ reply is. c.say_refusal.ensures.says reply output is))
    (scan_cause _ broken why c.say_refusal.result a mid b told c.say_refusal.ensures.ends (line_read moves.0 a mid moves.1).counts (no_fall_say mid b c.say_refusal.ensures.moves)
    (λ ends five tell. says_damage c.args.store.now.tables request why c.say_refusal.result a.seen.held mid b
    (λ d is. subst (IsScanShown c.args.store.now.tables a.seen.held) is (subst (λ ts. IsScanShown ts a.seen.held why) c.in-Ok.ensures.made.0 (c.in-Err-advance.ensures.shown tell.0))) moves.1.held c.say_refusal.ensures.moves.seen
    (λ reply is. c.say_refusal.ensures.says reply tell.1 is) ends five))

pub say_refusal-requires-in-Err-clause-told : goal.say_refusal-requires-in-Err-clause-told
say_refusal-requires-in-Err-clause-told g c =
    let a = g.W.Disk.world c.args.out.now in
    let broken = limit_of (Seek c.args.lo.now (option_map (λ (bound : Bor (List ℕ)). bound.now) c.args.hi)) in
    is_scan_told broken a a c.in-Err.why (scan_told c.in-Err.why c.args.store.now.stopped broken a a c.requires.running (scan_count c.args.store.now.stopped broken a c.in-Err.why c.in-Err.ensures.refused))

pub returns : goal.returns
returns g c =
    let kind = filter_kind g.F.RangeFilter.spelling g.F.RangeFilter.built_cutoff in
    let a = g.W.Disk.world c.args.out.now in
    let b = g.W.Disk.world c.say_refusal-in-Err.new.out in
    let request = Seek c.args.lo.now (option_map (λ (bound : Bor (List ℕ)). bound.now) c.args.hi) in
    let why = c.in-Err.why in
    let broken = limit_of request in
    let told = scan_told why c.args.store.now.stopped broken a a c.requires.running (scan_count c.args.store.now.stopped broken a why c.in-Err.ensures.refused) in
    scan_answers kind request c.args.store.now c.say_refusal-in-Err.result a a b (no_reads a) (g.met.W.Outside.said_now c.args.out.now) (g.met.W.Outside.said_now c.args.out.now) c.say_refusal-in-Err.ensures.moves
    g.W.Disk.tells g.W.Outside.tells_output c.requires.running
    (λ s tells output tied.
    scan_refused kind request c.args.store.now c.say_refusal-in-Err.result a a b (no_reads a) (g.met.W.Outside.said_now c.args.out.now) (g.met.W.Outside.said_now c.args.out.now) c.say_refusal-in-Err.ensures.moves
    s c.consistency_law.ensures.slot tied (λ _. omega arith) why told (scan_undamaged c.args.store.now.stopped broken why c.in-Err.ensures.refused) refl tt refl
    (no_device (Reads s request) c.args.store.now.stopped broken why c.in-Err.ensures.refused) (λ reply is. c.say_refusal-in-Err.ensures.says reply output is))
    (scan_cause _ broken why c.say_refusal-in-Err.result a a b told c.say_refusal-in-Err.ensures.ends (no_fall_none a) (no_fall_say a b c.say_refusal-in-Err.ensures.moves)
    (λ ends five tell. absurd (never_damaged c.args.store.now.stopped broken why c.in-Err.ensures.refused ends)))
