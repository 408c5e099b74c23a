use Rattle.std.proofs.Common.{◌≡◌, ◌∙◌, ◌≤◌, ◌+◌, ◌-◌, inl, inr, List, ℕ, Bool, true, false, drop, take, ap, arith, refl, subst, sym}
use Rattle.std.specs.Prelude.{Some, is_some}
use Rattle.disk_trait.specs.Image.{Image}
use Rattle.disk_trait.specs.World.{Streams}
use Rattle.line_model.specs.Limits.{limit_of}
use Rattle.line_model.specs.Requests.{Range}
use Rattle.lines_in.specs.declared.line_end.LineEnd.TheVariants.{End, Next}
use Rattle.lines_in.proofs.EndCauses.{no_fall_none, no_fall_say, rose_since}
use Rattle.map_model.specs.Slices.{slice}
use Rattle.map_model.specs.SortedMap.{Bytes, Map}
use Rattle.state_model.specs.Steps.{Reads}
use Rattle.state_model.specs.View.{state_map}
use Rattle.store_core.proofs.ScanCounts.{drop_next, none_pair, scan_count, scan_undamaged, some_behind, step_count}
use Rattle.store_core.proofs.Tellings.{seen_as}
use Rattle.store_core.specs.Scans.{IsScanShown, StillComes, left_behind, opened_tables}
use Rattle.surf_run.specs.Kind.{filter_kind}
use Rattle.surf_run.proofs.Calms.{behind_damage, runs_any, said_cause}
use Rattle.surf_run.proofs.Footprint.{pages_still}
use Rattle.surf_run.proofs.Ranges.{below_most, one_waits, range_cut, range_done, range_fault, walked_read, walked_say}
use Rattle.surf_run.proofs.Scans.{never_damaged, no_device, no_reads, scan_answers, scan_cause, scan_refused, scan_told}
use Rattle.table_file.specs.Opened.{Opened}
use Rattle.surf_run.proofs.answers.range_line.Goals as goal

-- ---- no scan

pub returns-in-Err : goal.returns-in-Err
returns-in-Err g c =
    let kind = filter_kind g.F.RangeFilter.spelling g.F.RangeFilter.built_cutoff in
    let a = g.W.Disk.world c.args.out.now in
    let b = g.W.Disk.world c.say_refusal.new.out in
    let request = Range c.args.lo.now c.args.hi.now c.args.most in
    let why = c.in-Err.why in
    let broken = limit_of request in
    let told = scan_told why c.args.store.now.stopped broken a a c.requires.running (scan_count c.args.store.now.stopped broken a why c.in-Err.ensures.refused) in
    scan_answers kind request c.args.store.now c.say_refusal.result a a b (no_reads a) (g.met.W.Outside.said_now c.args.out.now) (g.met.W.Outside.said_now c.args.out.now) c.say_refusal.ensures.moves
    g.W.Disk.tells g.W.Outside.tells_output c.requires.running
    (λ s tells output tied.
    scan_refused kind request c.args.store.now c.say_refusal.result a a b (no_reads a) (g.met.W.Outside.said_now c.args.out.now) (g.met.W.Outside.said_now c.args.out.now) c.say_refusal.ensures.moves
    s c.consistency_law.ensures.slot tied (λ never. absurd never) why told (scan_undamaged c.args.store.now.stopped broken why c.in-Err.ensures.refused) refl tt (inl refl)
    (no_device (Reads s request) c.args.store.now.stopped broken why c.in-Err.ensures.refused) (λ reply is. c.say_refusal.ensures.says reply output is))
    (scan_cause _ broken why c.say_refusal.result a a b told c.say_refusal.ensures.ends (no_fall_none a) (no_fall_say a b c.say_refusal.ensures.moves)
    (λ ends five tell. absurd (never_damaged c.args.store.now.stopped broken why c.in-Err.ensures.refused ends)))

-- ---- all pairs were said

pub returns-in-Ok-false : goal.returns-in-Ok-false
returns-in-Ok-false g c =
    let kind = filter_kind g.F.RangeFilter.spelling g.F.RangeFilter.built_cutoff in
    let a = g.W.Disk.world c.args.out.now in
    let w = g.W.Disk.world c.loop-out.out in
    let mid = g.W.Disk.world c.advance.new.disk in
    let b = g.W.Disk.world c.say_behind.new.out in
    let walked = c.loop-out.invariant.walked in
    let now_w = g.met.W.Outside.said_now c.loop-out.out in
    let now_mid = g.met.W.Outside.said_now c.advance.new.disk in
    let read = walked_read a w mid walked now_w c.advance.ensures.moves in
    record {
      answered = λ s tells output tied.
          let seen = seen_as kind.spelling kind.filter_bytes c.args.store.now s a (g.met.W.Disk.current c.args.out.now tells) tied in
          let m = slice (state_map s) c.args.lo.now (Some c.args.hi.now) c.args.most in
          let first = c.in-Ok.ensures.shows s a.seen.held seen in
          let here = subst (λ (f : Image). StillComes kind.spelling c.loop-out.scan (drop c.loop-out.count m) f) (sym walked.held) (c.loop-out.invariant.shows m tells first) in
          let on = c.in-Ok-false.ensures.pairs (drop c.loop-out.count m) tells here in
          let said = c.in-Ok-false.ensures.said in
          let test = c.in-Ok-false.field-0-test in
          let no : is_some c.advance.new.self.now ≡ false = cc in
          range_done kind s c.args.lo.now c.args.hi.now c.args.most c.args.store.now c.say_behind.result a w mid b c.consistency_law.ensures.slot tied walked c.advance.ensures.moves now_w now_mid c.say_behind.ensures.moves
          c.in-Ok.ensures.refused.1 c.loop-out.count (take c.loop-out.used c.loop-out.buffer) (c.loop-out.invariant.said m tells output first) (c.loop-out.invariant.within m tells first) (sym on.0 ∙ none_pair c.advance.new.self.now no)
          (c.say_behind.ensures.says output);
      running = runs_any c.say_behind.result c.args.store.now.stopped c.requires.running;
      cause = said_cause c.say_behind.result Next a mid b c.say_behind.ensures.cause _ tt read.lines.counts;
      moves = (walked_say a mid b read now_mid c.say_behind.ensures.moves).lines;
      within = let said = walked_say a mid b read now_mid c.say_behind.ensures.moves in pages_still c.args.store.now c.args.store.now a b refl said.held said.time;
    }

-- ---- a fault

pub returns-in-Err-advance : goal.returns-in-Err-advance
returns-in-Err-advance g c =
    let kind = filter_kind g.F.RangeFilter.spelling g.F.RangeFilter.built_cutoff in
    let a = g.W.Disk.world c.args.out.now in
    let w = g.W.Disk.world c.loop-out.out in
    let mid = g.W.Disk.world c.advance.new.disk in
    let b = g.W.Disk.world c.say_refusal_behind.new.out in
    let why = c.in-Err-advance.why in
    let request = Range c.args.lo.now c.args.hi.now c.args.most in
    let broken = limit_of request in
    let walked = c.loop-out.invariant.walked in
    let now_w = g.met.W.Outside.said_now c.loop-out.out in
    let now_mid = g.met.W.Outside.said_now c.advance.new.disk in
    let read = walked_read a w mid walked now_w c.advance.ensures.moves in
    let say = c.say_refusal_behind.ensures.moves in
    let told = scan_told why c.args.store.now.stopped broken a mid c.requires.running
    (step_count c.args.store.now.stopped broken a w mid why walked.lines.counts.read c.in-Ok.ensures.refused c.in-Err-advance.ensures.refused) in
    record {
      answered = λ s tells output tied.
          let seen = seen_as kind.spelling kind.filter_bytes c.args.store.now s a (g.met.W.Disk.current c.args.out.now tells) tied in
          let m = slice (state_map s) c.args.lo.now (Some c.args.hi.now) c.args.most in
          let first = c.in-Ok.ensures.shows s a.seen.held seen in
          let here = subst (λ (f : Image). StillComes kind.spelling c.loop-out.scan (drop c.loop-out.count m) f) (sym walked.held) (c.loop-out.invariant.shows m tells first) in
          let opened : 1 ≤ opened_tables c.in-Ok.scan = omega (arith, c.loop-out.invariant.sources, c.in-Err-advance.ensures.only_if_read.0) in
          range_fault kind s c.args.lo.now c.args.hi.now c.args.most c.args.store.now c.say_refusal_behind.result a w mid b c.consistency_law.ensures.slot tied walked c.advance.ensures.moves now_w now_mid say
          c.in-Ok.ensures.refused.1 c.loop-out.count (take c.loop-out.used c.loop-out.buffer) (c.loop-out.invariant.said m tells output first) why c.in-Err-advance.ensures.refused (c.in-Err-advance.ensures.undamaged (drop c.loop-out.count m) tells here)
          (below_most c.loop-out.scan.left c.args.most c.loop-out.count c.loop-out.invariant.left c.loop-out.invariant.few c.in-Err-advance.ensures.only_if_read.1)
          (c.in-Ok.ensures.only_if_read s a.seen.held seen opened) (λ reply is. c.say_refusal_behind.ensures.says reply output is);
      running = runs_any c.say_refusal_behind.result c.args.store.now.stopped c.requires.running;
      cause = scan_cause _ broken why c.say_refusal_behind.result a mid b told c.say_refusal_behind.ensures.ends read.lines.counts (no_fall_say mid b say)
          (λ ends five tell.
          let there = subst (λ (f : Image). IsScanShown c.loop-out.scan.tables f why) walked.held (c.in-Err-advance.ensures.shown tell.0) in
          let shown = subst (λ (ts : List Opened). IsScanShown ts a.seen.held why) (c.loop-out.invariant.tables ∙ c.in-Ok.ensures.made.0) there in
          behind_damage c.args.store.now.tables request why c.say_refusal_behind.result a.seen.held (take c.loop-out.used c.loop-out.buffer) mid b
          (λ d is. subst (IsScanShown c.args.store.now.tables a.seen.held) is shown) read.held say.seen (λ reply is. c.say_refusal_behind.ensures.says reply tell.1 is) ends five);
      moves = (walked_say a mid b read now_mid say).lines;
      within = let said = walked_say a mid b read now_mid say in pages_still c.args.store.now c.args.store.now a b refl said.held said.time;
    }

-- ---- one more

pub loop-out-preserved : goal.loop-out-preserved
loop-out-preserved g c =
    let spelling = g.F.RangeFilter.spelling in
    let a = g.W.Disk.world c.args.out.now in
    let w = g.W.Disk.world c.loop-out.out in
    let mid = g.W.Disk.world c.advance.new.disk in
    let b = g.W.Disk.world c.add_reply.new.out in
    let walked = c.loop-out.invariant.walked in
    let now_w = g.met.W.Outside.said_now c.loop-out.out in
    let now_mid = g.met.W.Outside.said_now c.advance.new.disk in
    let waits = take c.loop-out.used c.loop-out.buffer in
    let pair : Bytes × Bytes = (c.in-Some.key.now, c.in-Some.value.now) in
    let test = c.in-Ok-true.field-0-test in
    let told = c.in-Ok-true.ensures.said in
    let some : is_some c.advance.new.self.now ≡ true = cc in
    let below = below_most c.loop-out.scan.left c.args.most c.loop-out.count c.loop-out.invariant.left c.loop-out.invariant.few (c.in-Ok-true.ensures.more test) in
    let fewer : c.args.most - c.loop-out.count - 1 ≡ c.args.most - (c.loop-out.count + 1) = omega arith in
    record {
      shows = λ m so first.
          let here = subst (λ (f : Image). StillComes spelling c.loop-out.scan (drop c.loop-out.count m) f) (sym walked.held) (c.loop-out.invariant.shows m so first) in
          let on = c.in-Ok-true.ensures.pairs (drop c.loop-out.count m) so here in
          subst (λ (f : Image). StillComes spelling c.advance.new.self (drop (c.loop-out.count + 1) m) f) walked.held
          (subst (λ (p : Map). StillComes spelling c.advance.new.self p w.seen.held) (drop_next c.loop-out.count m) on.1);
      within = λ m so first.
          let here = subst (λ (f : Image). StillComes spelling c.loop-out.scan (drop c.loop-out.count m) f) (sym walked.held) (c.loop-out.invariant.shows m so first) in
          let on = c.in-Ok-true.ensures.pairs (drop c.loop-out.count m) so here in
          omega (arith, some_behind c.loop-out.count m (ap is_some (sym on.0) ∙ some));
      said = λ m so out first.
          let here = subst (λ (f : Image). StillComes spelling c.loop-out.scan (drop c.loop-out.count m) f) (sym walked.held) (c.loop-out.invariant.shows m so first) in
          let on = c.in-Ok-true.ensures.pairs (drop c.loop-out.count m) so here in
          c.in-Ok-add_reply.ensures.said out
          ∙ one_waits c.loop-out.count m pair (sym on.0 ∙ sym c.in-Some.ensures.now) a.beside.said w.beside.said mid.beside.said waits
          (ap (λ (st : Streams). st.said) c.advance.ensures.moves.1.beside) (c.loop-out.invariant.said m so out first);
      room = c.in-Ok-add_reply.ensures.room;
      left = c.in-Ok-true.ensures.counts ∙ ap (λ (t : Bool). left_behind t c.loop-out.scan.left) test ∙ ap (left_behind true) c.loop-out.invariant.left ∙ ap (λ (n : ℕ). Some n) fewer;
      few = omega (arith, below);
      tables = c.advance.ensures.same.0 ∙ c.loop-out.invariant.tables;
      sources = c.advance.ensures.same.1 ∙ c.loop-out.invariant.sources;
      walked = walked_say a mid b (walked_read a w mid walked now_w c.advance.ensures.moves) now_mid c.add_reply.ensures.moves;
    }

-- ---- the output failed

pub returns-in-Err-add_reply : goal.returns-in-Err-add_reply
returns-in-Err-add_reply g c =
    let kind = filter_kind g.F.RangeFilter.spelling g.F.RangeFilter.built_cutoff in
    let a = g.W.Disk.world c.args.out.now in
    let w = g.W.Disk.world c.loop-out.out in
    let mid = g.W.Disk.world c.advance.new.disk in
    let b = g.W.Disk.world c.add_reply.new.out in
    let walked = c.loop-out.invariant.walked in
    let now_w = g.met.W.Outside.said_now c.loop-out.out in
    let now_mid = g.met.W.Outside.said_now c.advance.new.disk in
    let read = walked_read a w mid walked now_w c.advance.ensures.moves in
    let pair : Bytes × Bytes = (c.in-Some.key.now, c.in-Some.value.now) in
    record {
      answered = λ s tells output tied.
          let seen = seen_as kind.spelling kind.filter_bytes c.args.store.now s a (g.met.W.Disk.current c.args.out.now tells) tied in
          let m = slice (state_map s) c.args.lo.now (Some c.args.hi.now) c.args.most in
          let first = c.in-Ok.ensures.shows s a.seen.held seen in
          let here = subst (λ (f : Image). StillComes kind.spelling c.loop-out.scan (drop c.loop-out.count m) f) (sym walked.held) (c.loop-out.invariant.shows m tells first) in
          let on = c.in-Ok-true.ensures.pairs (drop c.loop-out.count m) tells here in
          range_cut kind s c.args.lo.now c.args.hi.now c.args.most c.args.store.now (End 6) a w mid b c.consistency_law.ensures.slot tied walked c.advance.ensures.moves now_w now_mid c.add_reply.ensures.moves
          c.in-Ok.ensures.refused.1 c.loop-out.count (take c.loop-out.used c.loop-out.buffer) (c.loop-out.invariant.said m tells output first) pair (sym on.0 ∙ sym c.in-Some.ensures.now)
          (c.add_reply.ensures.prefix output) refl;
      running = tt;
      cause = inr (inr (refl, rose_since a.beside.say_faults mid.beside.say_faults b.beside.say_faults read.lines.counts.say c.in-Err-add_reply.ensures.cause));
      moves = (walked_say a mid b read now_mid c.add_reply.ensures.moves).lines;
      within = let said = walked_say a mid b read now_mid c.add_reply.ensures.moves in pages_still c.args.store.now c.args.store.now a b refl said.held said.time;
    }
