use Rattle.std.proofs.Common.{rules, List, ◌∙◌, ◌≤◌, ◌+◌, ℕ, Bool, false, drop, refl, sym, ap, subst, arith, []}
use Rattle.std.specs.Prelude.{None, is_some}
use Rattle.std.proofs.lemmas.List.{take_all}
use Rattle.disk_trait.proofs.Calls.{reads_none}
use Rattle.disk_trait.specs.Image.{Image}
use Rattle.load_gen.specs.Summary.{Summary, summary_of, with_pair}
use Rattle.line_model.specs.Requests.{Seek}
use Rattle.map_model.specs.Slices.{between}
use Rattle.map_model.specs.SortedMap.{Map}
use Rattle.state_model.specs.Steps.{Reads}
use Rattle.state_model.specs.View.{state_map}
use Rattle.store_core.proofs.Recorded.{shown_only}
use Rattle.store_core.proofs.ScanCauses.{reads_on}
use Rattle.store_core.proofs.ScanCounts.{count_few, drop_next, none_behind, none_pair, scan_count, scan_shown, scan_undamaged, some_behind, step_count}
use Rattle.store_core.proofs.Tellings.{seen_as}
use Rattle.store_core.specs.Scans.{IsScanRefusal, IsScanShown, StillComes}
use Rattle.surf_run.proofs.LoadSums.{all_between, summed_next}
use Rattle.surf_run.proofs.Scans.{if_device, no_device}
use Rattle.table_file.specs.Opened.{Opened}
use Rattle.table_model.specs.Tables.{filter_bytes_of}
use Rattle.surf_run.proofs.loading.summarise.Goals as goal

-- ---- no scan

pub returns-in_err-scan-clause-undamaged : goal.returns-in_err-scan-clause-undamaged
returns-in_err-scan-clause-undamaged g c s so tied =
    let here = scan_undamaged c.args.store.now.stopped None c.in_err-scan.field-0.0 c.in_err-scan.ensures.refused in
    search rules

pub returns-in_err-scan-clause-only_if_read : goal.returns-in_err-scan-clause-only_if_read
returns-in_err-scan-clause-only_if_read g c s so tied =
    let here = no_device (Reads s (Seek [] None)) c.args.store.now.stopped None c.in_err-scan.field-0.0 c.in_err-scan.ensures.refused in
    search rules

pub returns-in_err-scan-clause-shown : goal.returns-in_err-scan-clause-shown
returns-in_err-scan-clause-shown g c so =
    let here = scan_shown c.args.store.now.stopped None c.args.store.now.tables (g.W.Disk.world c.args.out.now).seen.held c.in_err-scan.field-0.0 c.in_err-scan.ensures.refused in
    search rules

pub returns-in_err-scan-clause-refused : goal.returns-in_err-scan-clause-refused
returns-in_err-scan-clause-refused g c =
    let here = scan_count false None (g.W.Disk.world c.args.out.now) c.in_err-scan.field-0.0 (subst (λ (b : Bool). IsScanRefusal b None c.in_err-scan.field-0.0) c.requires.running c.in_err-scan.ensures.refused) in
    search rules

pub returns-in_err-scan-clause-moves : goal.returns-in_err-scan-clause-moves
returns-in_err-scan-clause-moves g c = (0, reads_none 0 (g.W.Disk.world c.args.out.now))

-- ---- pairs one by one

pub loop-init : goal.loop-init
loop-init g c = record {
  shows = λ m so shows. shows;
  within = λ m so shows. omega arith;
  summed = λ m so shows. c.new-summary.ensures;
  live = ap (λ (s : Summary). s.live) c.new-summary.ensures;
  tables = refl;
  opened = refl;
  moves = (0, reads_none 0 (g.W.Disk.world c.args.out.now));
}

-- ---- a fault

pub returns-in_err-advance-clause-undamaged : goal.returns-in_err-advance-clause-undamaged
returns-in_err-advance-clause-undamaged g c s so tied =
    let before = g.W.Disk.world c.args.out.now in
    let seen = seen_as g.F.RangeFilter.spelling (filter_bytes_of g.F.RangeFilter.spelling g.F.RangeFilter.built_cutoff) c.args.store.now s before (g.met.W.Disk.current c.args.out.now so) tied in
    let m = between (state_map s) [] None in
    let shows = c.loop.invariant.shows m so (c.in_ok-scan.ensures.shows s before.seen.held seen) in
    let here = c.in_err-advance.ensures.undamaged (drop c.loop.counter m) so
    (subst (λ (f : Image). StillComes g.F.RangeFilter.spelling c.loop.scan (drop c.loop.counter m) f) (sym c.loop.invariant.moves.1.held) shows) in
    search rules

pub returns-in_err-advance-clause-only_if_read : goal.returns-in_err-advance-clause-only_if_read
returns-in_err-advance-clause-only_if_read g c s so tied =
    let before = g.W.Disk.world c.args.out.now in
    let seen = seen_as g.F.RangeFilter.spelling (filter_bytes_of g.F.RangeFilter.spelling g.F.RangeFilter.built_cutoff) c.args.store.now s before (g.met.W.Disk.current c.args.out.now so) tied in
    let some = subst (λ (n : ℕ). 1 ≤ n) c.loop.invariant.opened c.in_err-advance.ensures.only_if_read.0 in
    let here = if_device (Reads s (Seek [] None)) c.in_err-advance.field-0.0 (c.in_ok-scan.ensures.only_if_read s before.seen.held seen some) in
    search rules

pub returns-in_err-advance-clause-shown : goal.returns-in_err-advance-clause-shown
returns-in_err-advance-clause-shown g c so =
    let why = c.in_err-advance.field-0.0 in
    let there = subst (λ (f : Image). IsScanShown c.loop.scan.tables f why) c.loop.invariant.moves.1.held (c.in_err-advance.ensures.shown so) in
    let here = subst (λ (ts : List Opened). IsScanShown ts (g.W.Disk.world c.args.out.now).seen.held why) (c.loop.invariant.tables ∙ c.in_ok-scan.ensures.made.0) there in
    search rules

pub returns-in_err-advance-clause-refused : goal.returns-in_err-advance-clause-refused
returns-in_err-advance-clause-refused g c =
    let here = step_count false None (g.W.Disk.world c.args.out.now) (g.W.Disk.world c.loop.out) (g.W.Disk.world c.advance.new.disk)
    c.in_err-advance.field-0.0 c.loop.invariant.moves.1.read_faults (refl, refl) c.in_err-advance.ensures.refused in
    search rules

pub returns-in_err-advance-clause-moves : goal.returns-in_err-advance-clause-moves
returns-in_err-advance-clause-moves g c = reads_on (g.W.Disk.world c.args.out.now) (g.W.Disk.world c.loop.out) (g.W.Disk.world c.advance.new.disk) c.loop.invariant.moves c.advance.ensures.moves

-- ---- one more

pub add-requires : goal.add-requires
add-requires g c = omega (arith, c.loop.invariant.live)

pub loop-preserved : goal.loop-preserved
loop-preserved g c =
    let spelling = g.F.RangeFilter.spelling in
    let held = c.loop.invariant.moves.1.held in
    record {
      shows = λ m so shows.
          let here = subst (λ (f : Image). StillComes spelling c.loop.scan (drop c.loop.counter m) f) (sym held) (c.loop.invariant.shows m so shows) in
          let on = c.in_ok-advance.ensures.pairs (drop c.loop.counter m) so here in
          subst (λ (f : Image). StillComes spelling c.advance.new.self (drop (c.loop.counter + 1) m) f) held
          (subst (λ (p : Map). StillComes spelling c.advance.new.self p (g.W.Disk.world c.loop.out).seen.held) (drop_next c.loop.counter m) on.1);
      within = λ m so shows.
          let here = subst (λ (f : Image). StillComes spelling c.loop.scan (drop c.loop.counter m) f) (sym held) (c.loop.invariant.shows m so shows) in
          let on = c.in_ok-advance.ensures.pairs (drop c.loop.counter m) so here in
          omega (arith, some_behind c.loop.counter m (ap is_some (sym on.0) ∙ sym c.in_ok-advance.ensures.said ∙ c.if-not-branch.false));
      summed = λ m so shows.
          let here = subst (λ (f : Image). StillComes spelling c.loop.scan (drop c.loop.counter m) f) (sym held) (c.loop.invariant.shows m so shows) in
          let on = c.in_ok-advance.ensures.pairs (drop c.loop.counter m) so here in
          c.add.ensures ∙ ap (λ (t : Summary). with_pair t ([], c.in-Some.value.now)) (c.loop.invariant.summed m so shows) ∙ sym (summed_next c.loop.counter m _ (sym on.0 ∙ sym c.in-Some.ensures.now));
      live = ap (λ (t : Summary). t.live) c.add.ensures ∙ ap (λ (k : ℕ). k + 1) c.loop.invariant.live;
      tables = c.advance.ensures.same.0 ∙ c.loop.invariant.tables;
      opened = c.advance.ensures.same.1 ∙ c.loop.invariant.opened;
      moves = reads_on (g.W.Disk.world c.args.out.now) (g.W.Disk.world c.loop.out) (g.W.Disk.world c.advance.new.disk) c.loop.invariant.moves c.advance.ensures.moves;
    }

-- ---- all

pub returns-then-not-branch-clause-answer : goal.returns-then-not-branch-clause-answer
returns-then-not-branch-clause-answer g c s so tied =
    let spelling = g.F.RangeFilter.spelling in
    let before = g.W.Disk.world c.args.out.now in
    let seen = seen_as spelling (filter_bytes_of g.F.RangeFilter.spelling g.F.RangeFilter.built_cutoff) c.args.store.now s before (g.met.W.Disk.current c.args.out.now so) tied in
    let m = between (state_map s) [] None in
    let first = c.in_ok-scan.ensures.shows s before.seen.held seen in
    let here = subst (λ (f : Image). StillComes spelling c.loop.scan (drop c.loop.counter m) f) (sym c.loop.invariant.moves.1.held) (c.loop.invariant.shows m so first) in
    let on = c.in_ok-advance.ensures.pairs (drop c.loop.counter m) so here in
    let none = sym on.0 ∙ none_pair c.advance.new.self.now (sym c.in_ok-advance.ensures.said ∙ c.if-not-branch.true) in
    c.loop.invariant.summed m so first ∙ ap (λ (p : Map). summary_of p) (take_all c.loop.counter m (none_behind c.loop.counter m none) ∙ all_between (state_map s))

pub returns-then-not-branch-clause-moves : goal.returns-then-not-branch-clause-moves
returns-then-not-branch-clause-moves g c = reads_on (g.W.Disk.world c.args.out.now) (g.W.Disk.world c.loop.out) (g.W.Disk.world c.advance.new.disk) c.loop.invariant.moves c.advance.ensures.moves

-- no state has more pairs than these
pub returns-clause-answer : goal.returns-clause-answer
returns-clause-answer g c s so tied =
    let bytes = filter_bytes_of g.F.RangeFilter.spelling g.F.RangeFilter.built_cutoff in
    let before = g.W.Disk.world c.args.out.now in
    let seen = seen_as g.F.RangeFilter.spelling bytes c.args.store.now s before (g.met.W.Disk.current c.args.out.now so) tied in
    let m = between (state_map s) [] None in
    let first = c.in_ok-scan.ensures.shows s before.seen.held seen in
    c.loop.invariant.summed m so first
    ∙ ap (λ (p : Map). summary_of p) (take_all c.loop.counter m (omega (arith, c.loop-test.false, c.loop.auto.counter-end, count_few bytes s [] None tied.sound (shown_only g.F.RangeFilter.spelling c.args.store.now.manifest c.args.store.now.tables c.args.store.now.job s before.seen.held seen.under))) ∙ all_between (state_map s))
