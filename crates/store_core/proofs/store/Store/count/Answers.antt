use Rattle.std.proofs.Common.{rules, List, ◌≡◌, ◌∙◌, ◌≤◌, ◌+◌, ◌-◌, ℕ, Bool, true, drop, refl, sym, ap, subst, arith}
use Rattle.std.proofs.lemmas.Bool.{false≢true}
use Rattle.std.specs.Prelude.{Some, is_some}
use Rattle.disk_trait.proofs.Calls.{reads_none}
use Rattle.disk_trait.specs.Image.{Image}
use Rattle.line_model.specs.Limits.{limit_of}
use Rattle.line_model.specs.Requests.{Count}
use Rattle.map_model.specs.Slices.{slice}
use Rattle.map_model.specs.SortedMap.{Map}
use Rattle.merge_rows.proofs.SoundPasses.{pass_same}
use Rattle.merge_rows.specs.Merges.{TableWalk}
use Rattle.merge_rows.specs.Reads.{PassSound}
use Rattle.state_model.specs.Bounds.{tables_between}
use Rattle.state_model.specs.View.{state_map}
use Rattle.store_core.proofs.ScanCauses.{reads_on}
use Rattle.store_core.proofs.ScanCounts.{below_most, counted_all, drop_next, met_any, none_behind, none_crossed, none_pair, scan_count, scan_met, scan_shown, scan_undamaged, some_behind, step_count}
use Rattle.store_core.proofs.ScanEnds.{more_left, passed_on}
use Rattle.store_core.proofs.ScanGoes.{all_given, goes_same, later_steps}
use Rattle.store_core.proofs.Tellings.{seen_as}
use Rattle.store_core.proofs.Ties.{tied_read}
use Rattle.store_core.specs.Scans.{IsScanShown, StillComes, left_behind, opened_tables, walks_between}
use Rattle.table_file.specs.Opened.{Opened}
use Rattle.table_model.specs.Tables.{filter_bytes_of}
use Rattle.store_core.proofs.Recorded.{shown_only}
use Rattle.store_core.proofs.store.Store.count.Goals as goal

-- ---- no scan

pub returns-in_err-scan-clause-undamaged : goal.returns-in_err-scan-clause-undamaged
returns-in_err-scan-clause-undamaged g c s so tied =
    let here = scan_undamaged c.args.self.now.stopped (limit_of (Count c.args.low.now c.args.high.now)) c.in_err-scan.field-0.0 c.in_err-scan.ensures.refused in
    search rules

pub returns-in_err-scan-clause-shown : goal.returns-in_err-scan-clause-shown
returns-in_err-scan-clause-shown g c so =
    let here = scan_shown c.args.self.now.stopped (limit_of (Count c.args.low.now c.args.high.now)) c.args.self.now.tables (g.D.Disk.world c.args.disk.now).seen.held c.in_err-scan.field-0.0 c.in_err-scan.ensures.refused in
    search rules

pub returns-in_err-scan-clause-only_if_read : goal.returns-in_err-scan-clause-only_if_read
returns-in_err-scan-clause-only_if_read g c s so tied =
    let here = scan_met c.args.self.now.stopped (limit_of (Count c.args.low.now c.args.high.now)) (tables_between s c.args.low.now c.args.high.now) c.in_err-scan.field-0.0 c.in_err-scan.ensures.refused in
    search rules

pub returns-in_err-scan-clause-whole : goal.returns-in_err-scan-clause-whole
returns-in_err-scan-clause-whole g c s so tied = omega arith

pub returns-in_err-scan-clause-refused : goal.returns-in_err-scan-clause-refused
returns-in_err-scan-clause-refused g c =
    let here = scan_count c.args.self.now.stopped (limit_of (Count c.args.low.now c.args.high.now)) (g.D.Disk.world c.args.disk.now) c.in_err-scan.field-0.0 c.in_err-scan.ensures.refused in
    search rules

pub returns-in_err-scan-clause-crossed : goal.returns-in_err-scan-clause-crossed
returns-in_err-scan-clause-crossed g c crossed = reads_none 0 (g.D.Disk.world c.args.disk.now)

pub returns-in_err-scan-clause-limited : goal.returns-in_err-scan-clause-limited
returns-in_err-scan-clause-limited g c broken = reads_none 0 (g.D.Disk.world c.args.disk.now)

-- ---- crossed bounds

pub returns-then-is_crossed-clause-answer : goal.returns-then-is_crossed-clause-answer
returns-then-is_crossed-clause-answer g c s so tied = none_crossed c.args.low.now c.args.high.now (sym c.is_crossed.ensures ∙ c.if-is_crossed.true) (state_map s)

pub returns-then-is_crossed-clause-crossed : goal.returns-then-is_crossed-clause-crossed
returns-then-is_crossed-clause-crossed g c crossed = reads_none 0 (g.D.Disk.world c.args.disk.now)

pub returns-then-is_crossed-clause-limited : goal.returns-then-is_crossed-clause-limited
returns-then-is_crossed-clause-limited g c broken = reads_none 0 (g.D.Disk.world c.args.disk.now)

pub returns-then-is_crossed-clause-whole : goal.returns-then-is_crossed-clause-whole
returns-then-is_crossed-clause-whole g c s so tied = omega arith

-- ---- pairs one by one

pub loop-scan-init : goal.loop-scan-init
loop-scan-init g c = record {
  shows = λ m so shows. shows;
  within = λ m so shows. omega arith;
  spent = λ m so shows. omega arith;
  left = c.in_ok-scan.ensures.made.1;
  few = omega arith;
  tables = refl;
  high = refl;
  passes = λ so. pass_same c.in_ok-scan.scan.tables (g.D.Disk.world c.args.disk.now).seen.held c.in_ok-scan.scan.merge.walks;
  goes = λ so. goes_same c.in_ok-scan.scan.tables (g.D.Disk.world c.args.disk.now).seen.held c.in_ok-scan.scan.merge;
  sources = refl;
  moves = (0, reads_none 0 (g.D.Disk.world c.args.disk.now));
}

-- ---- a fault

pub returns-in_err-advance-clause-tied : goal.returns-in_err-advance-clause-tied
returns-in_err-advance-clause-tied g c s tied =
    let moves = reads_on (g.D.Disk.world c.args.disk.now) (g.D.Disk.world c.loop-scan.disk) (g.D.Disk.world c.advance.new.disk) c.loop-scan.invariant.moves c.advance.ensures.moves in
    tied_read g.F.RangeFilter.spelling (filter_bytes_of g.F.RangeFilter.spelling g.F.RangeFilter.built_cutoff) c.args.self.now s _ _ moves.0 moves.1 tied

pub returns-in_err-advance-clause-undamaged : goal.returns-in_err-advance-clause-undamaged
returns-in_err-advance-clause-undamaged g c s so tied =
    let before = g.D.Disk.world c.args.disk.now in
    let seen = seen_as g.F.RangeFilter.spelling (filter_bytes_of g.F.RangeFilter.spelling g.F.RangeFilter.built_cutoff) c.args.self.now s before (g.met.D.Disk.current c.args.disk.now so) tied in
    let m = slice (state_map s) c.args.low.now (Some c.args.high.now) 18446744073709551615 in
    let shows = c.loop-scan.invariant.shows m so (c.in_ok-scan.ensures.shows s before.seen.held seen) in
    let here = c.in_err-advance.ensures.undamaged (drop c.loop-scan.count m) so
    (subst (λ (f : Image). StillComes g.F.RangeFilter.spelling c.loop-scan.scan (drop c.loop-scan.count m) f) (sym c.loop-scan.invariant.moves.1.held) shows) in
    search rules

pub returns-in_err-advance-clause-shown : goal.returns-in_err-advance-clause-shown
returns-in_err-advance-clause-shown g c so =
    let why = c.in_err-advance.field-0.0 in
    let there = subst (λ (f : Image). IsScanShown c.loop-scan.scan.tables f why) c.loop-scan.invariant.moves.1.held (c.in_err-advance.ensures.shown so) in
    let here = subst (λ (ts : List Opened). IsScanShown ts (g.D.Disk.world c.args.disk.now).seen.held why) (c.loop-scan.invariant.tables ∙ c.in_ok-scan.ensures.made.0) there in
    search rules

pub returns-in_err-advance-clause-only_if_read : goal.returns-in_err-advance-clause-only_if_read
returns-in_err-advance-clause-only_if_read g c s so tied =
    let before = g.D.Disk.world c.args.disk.now in
    let seen = seen_as g.F.RangeFilter.spelling (filter_bytes_of g.F.RangeFilter.spelling g.F.RangeFilter.built_cutoff) c.args.self.now s before (g.met.D.Disk.current c.args.disk.now so) tied in
    let some : 1 ≤ opened_tables c.in_ok-scan.scan = omega (arith, c.loop-scan.invariant.sources, c.in_err-advance.ensures.only_if_read.0) in
    let here = met_any (tables_between s c.args.low.now c.args.high.now) c.in_err-advance.field-0.0 (c.in_ok-scan.ensures.only_if_read s before.seen.held seen some) in
    search rules

pub returns-in_err-advance-clause-whole : goal.returns-in_err-advance-clause-whole
returns-in_err-advance-clause-whole g c s so tied =
    let before = g.D.Disk.world c.args.disk.now in
    let seen = seen_as g.F.RangeFilter.spelling (filter_bytes_of g.F.RangeFilter.spelling g.F.RangeFilter.built_cutoff) c.args.self.now s before (g.met.D.Disk.current c.args.disk.now so) tied in
    let m = slice (state_map s) c.args.low.now (Some c.args.high.now) 18446744073709551615 in
    let first = c.in_ok-scan.ensures.shows s before.seen.held seen in
    let here = subst (λ (f : Image). StillComes g.F.RangeFilter.spelling c.loop-scan.scan (drop c.loop-scan.count m) f) (sym c.loop-scan.invariant.moves.1.held) (c.loop-scan.invariant.shows m so first) in
    omega (arith, c.in_ok-scan.ensures.blocks, c.loop-scan.invariant.spent m so first, c.in_err-advance.ensures.tried (drop c.loop-scan.count m) so here)

pub returns-in_err-advance-clause-refused : goal.returns-in_err-advance-clause-refused
returns-in_err-advance-clause-refused g c =
    let here = step_count c.args.self.now.stopped (limit_of (Count c.args.low.now c.args.high.now)) (g.D.Disk.world c.args.disk.now) (g.D.Disk.world c.loop-scan.disk) (g.D.Disk.world c.advance.new.disk)
    c.in_err-advance.field-0.0 c.loop-scan.invariant.moves.1.read_faults c.in_ok-scan.ensures.refused c.in_err-advance.ensures.refused in
    search rules

pub returns-in_err-advance-clause-no_call : goal.returns-in_err-advance-clause-no_call
returns-in_err-advance-clause-no_call g c stopped = absurd (false≢true (sym c.in_ok-scan.ensures.refused.0 ∙ stopped))

pub returns-in_err-advance-clause-moves : goal.returns-in_err-advance-clause-moves
returns-in_err-advance-clause-moves g c =
    reads_on (g.D.Disk.world c.args.disk.now) (g.D.Disk.world c.loop-scan.disk) (g.D.Disk.world c.advance.new.disk) c.loop-scan.invariant.moves c.advance.ensures.moves

pub returns-in_err-advance-clause-crossed : goal.returns-in_err-advance-clause-crossed
returns-in_err-advance-clause-crossed g c crossed = absurd (false≢true (sym c.if-is_crossed.false ∙ (c.is_crossed.ensures ∙ crossed)))

pub returns-in_err-advance-clause-limited : goal.returns-in_err-advance-clause-limited
returns-in_err-advance-clause-limited g c broken = absurd (broken c.in_ok-scan.ensures.refused.1)

-- ---- one more

pub overflow_add-count : goal.overflow_add-count
overflow_add-count g c =
    let below = below_most c.loop-scan.scan.left c.loop-scan.count c.loop-scan.invariant.left c.loop-scan.invariant.few (c.in_ok-advance.ensures.more c.if-branch.true) in
    omega (arith, below)

pub loop-scan-smaller : goal.loop-scan-smaller
loop-scan-smaller g c =
    let below = below_most c.loop-scan.scan.left c.loop-scan.count c.loop-scan.invariant.left c.loop-scan.invariant.few (c.in_ok-advance.ensures.more c.if-branch.true) in
    omega (arith, below)

pub loop-scan-preserved : goal.loop-scan-preserved
loop-scan-preserved g c =
    let spelling = g.F.RangeFilter.spelling in
    let held = c.loop-scan.invariant.moves.1.held in
    let below = below_most c.loop-scan.scan.left c.loop-scan.count c.loop-scan.invariant.left c.loop-scan.invariant.few (c.in_ok-advance.ensures.more c.if-branch.true) in
    let fewer : 18446744073709551615 - c.loop-scan.count - 1 ≡ 18446744073709551615 - (c.loop-scan.count + 1) = omega arith in
    record {
      shows = λ m so shows.
          let here = subst (λ (f : Image). StillComes spelling c.loop-scan.scan (drop c.loop-scan.count m) f) (sym held) (c.loop-scan.invariant.shows m so shows) in
          let on = c.in_ok-advance.ensures.pairs (drop c.loop-scan.count m) so here in
          subst (λ (f : Image). StillComes spelling c.advance.new.self (drop (c.loop-scan.count + 1) m) f) held
          (subst (λ (p : Map). StillComes spelling c.advance.new.self p (g.D.Disk.world c.loop-scan.disk).seen.held) (drop_next c.loop-scan.count m) on.1);
      within = λ m so shows.
          let here = subst (λ (f : Image). StillComes spelling c.loop-scan.scan (drop c.loop-scan.count m) f) (sym held) (c.loop-scan.invariant.shows m so shows) in
          let on = c.in_ok-advance.ensures.pairs (drop c.loop-scan.count m) so here in
          omega (arith, some_behind c.loop-scan.count m (ap is_some (sym on.0) ∙ sym c.in_ok-advance.ensures.said ∙ c.if-branch.true));
      spent = λ m so shows.
          let here = subst (λ (f : Image). StillComes spelling c.loop-scan.scan (drop c.loop-scan.count m) f) (sym held) (c.loop-scan.invariant.shows m so shows) in
          omega (arith, c.loop-scan.invariant.spent m so shows, c.in_ok-advance.ensures.spent (drop c.loop-scan.count m) so here);
      left =
          c.in_ok-advance.ensures.counts ∙ ap (λ (b : Bool). left_behind b c.loop-scan.scan.left) c.if-branch.true ∙ ap (left_behind true) c.loop-scan.invariant.left
          ∙ ap (λ (n : ℕ). Some n) fewer;
      few = omega (arith, below);
      tables = c.advance.ensures.same.0 ∙ c.loop-scan.invariant.tables;
      high = c.advance.ensures.high ∙ c.loop-scan.invariant.high;
      passes = λ so. passed_on c.loop-scan.scan.tables c.in_ok-scan.scan.tables (g.D.Disk.world c.loop-scan.disk).seen.held (g.D.Disk.world c.args.disk.now).seen.held c.in_ok-scan.scan.merge.walks c.loop-scan.scan.merge.walks c.advance.new.self.merge.walks
          c.loop-scan.invariant.tables held (c.loop-scan.invariant.passes so) (c.advance.ensures.passes so);
      goes = λ so. (later_steps c.loop-scan.scan.tables c.in_ok-scan.scan.tables (g.D.Disk.world c.loop-scan.disk).seen.held (g.D.Disk.world c.args.disk.now).seen.held c.in_ok-scan.scan.merge c.loop-scan.scan.merge c.advance.new.self.merge
          c.loop-scan.invariant.tables held (c.loop-scan.invariant.goes so) (c.in_ok-advance.ensures.steps so (c.in_ok-advance.ensures.more c.if-branch.true))).on;
      sources = c.advance.ensures.same.1 ∙ c.loop-scan.invariant.sources;
      moves = reads_on (g.D.Disk.world c.args.disk.now) (g.D.Disk.world c.loop-scan.disk) (g.D.Disk.world c.advance.new.disk) c.loop-scan.invariant.moves c.advance.ensures.moves;
    }

-- ---- all

pub returns-clause-answer : goal.returns-clause-answer
returns-clause-answer g c s so tied =
    let spelling = g.F.RangeFilter.spelling in
    let bytes = filter_bytes_of g.F.RangeFilter.spelling g.F.RangeFilter.built_cutoff in
    let before = g.D.Disk.world c.args.disk.now in
    let seen = seen_as spelling bytes c.args.self.now s before (g.met.D.Disk.current c.args.disk.now so) tied in
    let m = slice (state_map s) c.args.low.now (Some c.args.high.now) 18446744073709551615 in
    let first = c.in_ok-scan.ensures.shows s before.seen.held seen in
    let here = subst (λ (f : Image). StillComes spelling c.loop-scan.scan (drop c.loop-scan.count m) f) (sym c.loop-scan.invariant.moves.1.held) (c.loop-scan.invariant.shows m so first) in
    let on = c.in_ok-advance.ensures.pairs (drop c.loop-scan.count m) so here in
    let none = sym on.0 ∙ none_pair c.advance.new.self.now (sym c.in_ok-advance.ensures.said ∙ c.if-branch.false) in
    counted_all bytes s c.args.low.now (Some c.args.high.now) c.loop-scan.count tied.sound
    (shown_only spelling c.args.self.now.manifest c.args.self.now.tables c.args.self.now.job s before.seen.held (tied.images before.seen.held (g.met.D.Disk.current c.args.disk.now so)))
    (c.loop-scan.invariant.within m so first) (none_behind c.loop-scan.count m none)

pub returns-clause-tied : goal.returns-clause-tied
returns-clause-tied g c s tied =
    let moves = reads_on (g.D.Disk.world c.args.disk.now) (g.D.Disk.world c.loop-scan.disk) (g.D.Disk.world c.advance.new.disk) c.loop-scan.invariant.moves c.advance.ensures.moves in
    tied_read g.F.RangeFilter.spelling (filter_bytes_of g.F.RangeFilter.spelling g.F.RangeFilter.built_cutoff) c.args.self.now s _ _ moves.0 moves.1 tied

pub returns-clause-whole : goal.returns-clause-whole
returns-clause-whole g c s so tied =
    let before = g.D.Disk.world c.args.disk.now in
    let seen = seen_as g.F.RangeFilter.spelling (filter_bytes_of g.F.RangeFilter.spelling g.F.RangeFilter.built_cutoff) c.args.self.now s before (g.met.D.Disk.current c.args.disk.now so) tied in
    let m = slice (state_map s) c.args.low.now (Some c.args.high.now) 18446744073709551615 in
    let first = c.in_ok-scan.ensures.shows s before.seen.held seen in
    let here = subst (λ (f : Image). StillComes g.F.RangeFilter.spelling c.loop-scan.scan (drop c.loop-scan.count m) f) (sym c.loop-scan.invariant.moves.1.held) (c.loop-scan.invariant.shows m so first) in
    omega (arith, c.in_ok-scan.ensures.blocks, c.loop-scan.invariant.spent m so first, c.in_ok-advance.ensures.spent (drop c.loop-scan.count m) so here)

pub returns-clause-no_call : goal.returns-clause-no_call
returns-clause-no_call g c stopped = absurd (false≢true (sym c.in_ok-scan.ensures.refused.0 ∙ stopped))

pub returns-clause-moves : goal.returns-clause-moves
returns-clause-moves g c =
    reads_on (g.D.Disk.world c.args.disk.now) (g.D.Disk.world c.loop-scan.disk) (g.D.Disk.world c.advance.new.disk) c.loop-scan.invariant.moves c.advance.ensures.moves

pub returns-clause-crossed : goal.returns-clause-crossed
returns-clause-crossed g c crossed = absurd (false≢true (sym c.if-is_crossed.false ∙ (c.is_crossed.ensures ∙ crossed)))

pub returns-clause-limited : goal.returns-clause-limited
returns-clause-limited g c broken = absurd (broken c.in_ok-scan.ensures.refused.1)

-- ---- what was counted is sound

pub returns-then-is_crossed-clause-sound : goal.returns-then-is_crossed-clause-sound
returns-then-is_crossed-clause-sound g c so straight = absurd (false≢true (sym straight ∙ sym c.is_crossed.ensures ∙ c.if-is_crossed.true))

pub returns-clause-sound : goal.returns-clause-sound
returns-clause-sound g c so straight =
    let image = (g.D.Disk.world c.args.disk.now).seen.held in
    let first = c.in_ok-scan.scan in
    let made = c.in_ok-scan.ensures.made.0 in
    let begins = c.in_ok-scan.ensures.begins in
    let passes = passed_on c.loop-scan.scan.tables first.tables (g.D.Disk.world c.loop-scan.disk).seen.held image first.merge.walks c.loop-scan.scan.merge.walks c.advance.new.self.merge.walks
    c.loop-scan.invariant.tables c.loop-scan.invariant.moves.1.held (c.loop-scan.invariant.passes so) (c.advance.ensures.passes so) in
    record {
      walked = c.advance.new.self;
      tables_are = c.advance.ensures.same.0 ∙ c.loop-scan.invariant.tables ∙ made;
      high_is = c.advance.ensures.high ∙ c.loop-scan.invariant.high ∙ begins.0;
      passes = subst (λ (walks : List TableWalk). PassSound c.args.self.now.tables image walks c.advance.new.self.merge.walks) begins.1
          (subst (λ (ts : List Opened). PassSound ts image first.merge.walks c.advance.new.self.merge.walks) made passes);
      done = λ few.
          let going = more_left c.loop-scan.scan.left c.loop-scan.count c.loop-scan.invariant.left few in
          let steps = later_steps c.loop-scan.scan.tables first.tables (g.D.Disk.world c.loop-scan.disk).seen.held image first.merge c.loop-scan.scan.merge c.advance.new.self.merge
          c.loop-scan.invariant.tables c.loop-scan.invariant.moves.1.held (c.loop-scan.invariant.goes so) (c.in_ok-advance.ensures.steps so going) in
          all_given first.merge.walks (walks_between c.args.low.now (Some c.args.high.now) c.args.self.now.tables) first.tables image first.merge c.advance.new.self begins.1 refl
          (c.advance.ensures.same.0 ∙ c.loop-scan.invariant.tables) (c.in_ok-advance.ensures.done c.if-branch.false going) steps;
    }
