use Rattle.std.proofs.Common.{rules, ◌≡◌, ◌∙◌, ◌≤◌, ◌+◌, refl, sym, ap, subst, arith}
use Rattle.std.specs.Prelude.{Some}
use Rattle.merge_rows.proofs.SoundPasses.{pass_same}
use Rattle.merge_rows.specs.Reads.{PassSound, blocks_left}
use Rattle.merge_rows.specs.Steps.{AreWalksIn, numbers}
use Rattle.store_core.proofs.ScanCauses.{no_damage, not_ended, said_of, told_as, told_block, told_scan, told_step, told_walk}
use Rattle.store_core.proofs.ScanEnds.{ended_none}
use Rattle.store_core.proofs.ScanSteps.{late_same, shows_bounded, shows_ended, shows_on, shows_owing, shows_still}
use Rattle.store_core.specs.Faults.{of_table_fault}
use Rattle.store_core.specs.Scans.{IsScanShown, IsWalkShown, ScanWalk, StepsOn, StillComes, WakesLate, blocks_to_come, late_of, left_behind, opened_tables, step_bound}
use Rattle.store_core.proofs.scanning.Scan.advance.Goals as goal

pub returns-then-has_ended-clause-pairs : goal.returns-then-has_ended-clause-pairs
returns-then-has_ended-clause-pairs g c m so shows =
    let image = (g.D.Disk.world c.args.disk.now).seen.held in
    let inside = subst (λ (w : ScanWalk). StillComes g.F.RangeFilter.spelling w m image) (sym c.self.view_is) shows in
    shows_ended g.D.Disk.tells so g.F.RangeFilter.spelling image _ m inside _ refl (sym c.has_ended.ensures ∙ c.if-has_ended.true)

pub returns-then-has_ended-clause-spent : goal.returns-then-has_ended-clause-spent
returns-then-has_ended-clause-spent g c m so shows =
    let same = ap blocks_to_come c.self.view_is in
    omega (arith, same)

pub invariant_of-self-in_err-found : goal.invariant_of-self-in_err-found
invariant_of-self-in_err-found g c = (
  subst (AreWalksIn c.self.inside.tables.now.tables) (sym c.next_pair.ensures.late.stands_are) c.self.invariant.0,
  c.next_pair.ensures.late.drops_are ∙ c.self.invariant.1,
  λ at key is. c.self.invariant.2 at key (c.next_pair.ensures.late.sleep_on at key is).0,
)

pub returns-in_err-found-clause-stays : goal.returns-in_err-found-clause-stays
returns-in_err-found-clause-stays g c m so shows =
    let image = (g.D.Disk.world c.args.disk.now).seen.held in
    let inside = subst (λ (w : ScanWalk). StillComes g.F.RangeFilter.spelling w m image) (sym c.self.view_is) shows in
    let here = shows_still g.D.Disk.tells so g.F.RangeFilter.spelling image _ m inside c.next_pair.new.rows _ c.next_pair.ensures.late (c.in_err-found.ensures.stays so inside.sound) refl in
    search rules

pub returns-in_err-found-clause-undamaged : goal.returns-in_err-found-clause-undamaged
returns-in_err-found-clause-undamaged g c m so shows =
    let image = (g.D.Disk.world c.args.disk.now).seen.held in
    let inside = subst (λ (w : ScanWalk). StillComes g.F.RangeFilter.spelling w m image) (sym c.self.view_is) shows in
    let here = no_damage c.standing_tables_are_read.ensures.blocks g.F.RangeFilter.spelling _ m image inside (numbers c.self.inside.rows.merge.walks) c.in_err-found.field-0.0 (c.in_err-found.ensures.fault so) in
    search rules

pub returns-in_err-found-clause-shown : goal.returns-in_err-found-clause-shown
returns-in_err-found-clause-shown g c so =
    let image = (g.D.Disk.world c.args.disk.now).seen.held in
    let fault = c.in_err-found.field-0.0 in
    let here = told_block c.self.inside.tables.now.tables (numbers c.self.inside.rows.merge.walks) image fault (c.in_err-found.ensures.fault so) in
    told_scan c.from_residual.result c.args.self.now.tables image fault c.from_residual.ensures.1 (subst (λ (w : ScanWalk). IsScanShown w.tables image (of_table_fault fault)) c.self.view_is here)

pub returns-in_err-found-clause-walked : goal.returns-in_err-found-clause-walked
returns-in_err-found-clause-walked g c so =
    let image = (g.D.Disk.world c.args.disk.now).seen.held in
    let fault = c.in_err-found.field-0.0 in
    told_as (IsWalkShown c.args.self.now.tables (numbers c.args.self.now.merge.walks) image) c.from_residual.result (of_table_fault fault) c.from_residual.ensures.1
    (subst (λ (w : ScanWalk). IsWalkShown w.tables (numbers w.merge.walks) image (of_table_fault fault)) c.self.view_is
    (told_walk c.self.inside.tables.now.tables (numbers c.self.inside.rows.merge.walks) image fault (c.in_err-found.ensures.fault so)))

pub returns-in_err-found-clause-bounded : goal.returns-in_err-found-clause-bounded
returns-in_err-found-clause-bounded g c m so shows =
    let old = g.D.Disk.world c.args.disk.now in
    let new = g.D.Disk.world c.next_pair.new.disk in
    let inside = subst (λ (w : ScanWalk). StillComes g.F.RangeFilter.spelling w m old.seen.held) (sym c.self.view_is) shows in
    subst (λ (w : ScanWalk). new.seen.reads ≤ old.seen.reads + step_bound w old.seen.held) c.self.view_is
    (shows_bounded g.D.Disk.tells so g.F.RangeFilter.spelling old.seen.held _ m inside old.seen.reads new.seen.reads (sym c.has_ended.ensures ∙ c.if-has_ended.false) (c.next_pair.ensures.bounded so inside.sound))

pub returns-in_err-found-clause-tried : goal.returns-in_err-found-clause-tried
returns-in_err-found-clause-tried g c m so shows =
    let old = g.D.Disk.world c.args.disk.now in
    let new = g.D.Disk.world c.next_pair.new.disk in
    let inside = subst (λ (w : ScanWalk). StillComes g.F.RangeFilter.spelling w m old.seen.held) (sym c.self.view_is) shows in
    let here = subst (λ (w : ScanWalk). new.seen.reads ≤ old.seen.reads + blocks_to_come w) c.self.view_is (c.in_err-found.ensures.tried so inside.sound) in
    search rules

pub returns-in_err-found-clause-only_if_read : goal.returns-in_err-found-clause-only_if_read
returns-in_err-found-clause-only_if_read g c =
    let some : 1 ≤ opened_tables c.args.self.now = omega (arith, ap opened_tables c.self.view_is, c.in_err-found.ensures.only_if_read) in
    let going : c.args.self.now.left ≡ Some 0 → ⊥ = λ is. not_ended c.self.inside.left (sym c.has_ended.ensures ∙ c.if-has_ended.false) (ap (λ (w : ScanWalk). w.left) c.self.view_is ∙ is) in
    let here : (1 ≤ opened_tables c.args.self.now) × (c.args.self.now.left ≡ Some 0 → ⊥) = (some, going) in
    search rules

pub returns-in_err-found-clause-ended : goal.returns-in_err-found-clause-ended
returns-in_err-found-clause-ended g c is =
    absurd (not_ended c.self.inside.left (sym c.has_ended.ensures ∙ c.if-has_ended.false) (ap (λ (w : ScanWalk). w.left) c.self.view_is ∙ is))

pub returns-in_err-found-clause-refused : goal.returns-in_err-found-clause-refused
returns-in_err-found-clause-refused g c =
    let here = told_step (g.D.Disk.world c.args.disk.now) (g.D.Disk.world c.next_pair.new.disk) c.in_err-found.field-0.0 c.in_err-found.ensures.cause in
    search rules

pub invariant_of-self-2 : goal.invariant_of-self-2
invariant_of-self-2 g c = (
  subst (AreWalksIn c.self.inside.tables.now.tables) (sym c.next_pair.ensures.late.stands_are) c.self.invariant.0,
  c.next_pair.ensures.late.drops_are ∙ c.self.invariant.1,
  λ at key is. c.self.invariant.2 at key (c.next_pair.ensures.late.sleep_on at key is).0,
)

pub returns-clause-pairs : goal.returns-clause-pairs
returns-clause-pairs g c m so shows =
    let image = (g.D.Disk.world c.args.disk.now).seen.held in
    let inside = subst (λ (w : ScanWalk). StillComes g.F.RangeFilter.spelling w m image) (sym c.self.view_is) shows in
    shows_on g.D.Disk.tells so g.F.RangeFilter.spelling image _ m inside c.next_pair.new.rows _ c.in_ok-found.found c.left_behind-left.result c.left_behind-left.ensures c.next_pair.ensures.late
    (sym c.has_ended.ensures ∙ c.if-has_ended.false) c.in_ok-found.ensures.some (c.in_ok-found.ensures.pairs so inside.sound) refl

pub returns-clause-bounded : goal.returns-clause-bounded
returns-clause-bounded g c m so shows =
    let old = g.D.Disk.world c.args.disk.now in
    let new = g.D.Disk.world c.next_pair.new.disk in
    let inside = subst (λ (w : ScanWalk). StillComes g.F.RangeFilter.spelling w m old.seen.held) (sym c.self.view_is) shows in
    subst (λ (w : ScanWalk). new.seen.reads ≤ old.seen.reads + step_bound w old.seen.held) c.self.view_is
    (shows_bounded g.D.Disk.tells so g.F.RangeFilter.spelling old.seen.held _ m inside old.seen.reads new.seen.reads (sym c.has_ended.ensures ∙ c.if-has_ended.false) (c.next_pair.ensures.bounded so inside.sound))

pub returns-clause-spent : goal.returns-clause-spent
returns-clause-spent g c m so shows =
    let old = g.D.Disk.world c.args.disk.now in
    let new = g.D.Disk.world c.next_pair.new.disk in
    let inside = subst (λ (w : ScanWalk). StillComes g.F.RangeFilter.spelling w m old.seen.held) (sym c.self.view_is) shows in
    subst (λ (w : ScanWalk). new.seen.reads + blocks_left c.self.inside.tables.now.tables c.next_pair.new.rows.merge.walks ≤ old.seen.reads + blocks_to_come w) c.self.view_is
    (c.in_ok-found.ensures.spent so inside.sound)

pub returns-clause-said : goal.returns-clause-said
returns-clause-said g c = said_of c.in_ok-found.found c.next_pair.new.rows.merge.now c.in_ok-found.ensures.some

pub returns-clause-ended : goal.returns-clause-ended
returns-clause-ended g c is =
    absurd (not_ended c.self.inside.left (sym c.has_ended.ensures ∙ c.if-has_ended.false) (ap (λ (w : ScanWalk). w.left) c.self.view_is ∙ is))

pub returns-clause-counts : goal.returns-clause-counts
returns-clause-counts g c = c.left_behind-left.ensures ∙ ap (λ (w : ScanWalk). left_behind c.in_ok-found.found w.left) c.self.view_is

pub returns-clause-more : goal.returns-clause-more
returns-clause-more g c some is =
    not_ended c.self.inside.left (sym c.has_ended.ensures ∙ c.if-has_ended.false) (ap (λ (w : ScanWalk). w.left) c.self.view_is ∙ is)

-- ---- what was passed is sound, and at the end no block was left out

pub returns-then-has_ended-clause-passes : goal.returns-then-has_ended-clause-passes
returns-then-has_ended-clause-passes g c so =
    let image = (g.D.Disk.world c.args.disk.now).seen.held in
    subst (λ (w : ScanWalk). PassSound w.tables image w.merge.walks c.self.inside.rows.merge.walks) c.self.view_is (pass_same c.self.inside.tables.now.tables image c.self.inside.rows.merge.walks)

pub returns-then-has_ended-clause-done : goal.returns-then-has_ended-clause-done
returns-then-has_ended-clause-done g c none going =
    absurd (going (ap (λ (w : ScanWalk). w.left) (sym c.self.view_is) ∙ ended_none c.self.inside.left (sym c.has_ended.ensures ∙ c.if-has_ended.true)))

pub returns-in_err-found-clause-passes : goal.returns-in_err-found-clause-passes
returns-in_err-found-clause-passes g c so =
    subst (λ (w : ScanWalk). PassSound w.tables (g.D.Disk.world c.args.disk.now).seen.held w.merge.walks c.next_pair.new.rows.merge.walks) c.self.view_is (c.next_pair.ensures.passes so)

pub returns-clause-passes : goal.returns-clause-passes
returns-clause-passes g c so =
    subst (λ (w : ScanWalk). PassSound w.tables (g.D.Disk.world c.args.disk.now).seen.held w.merge.walks c.next_pair.new.rows.merge.walks) c.self.view_is (c.next_pair.ensures.passes so)

pub returns-clause-done : goal.returns-clause-done
returns-clause-done g c none going = c.in_ok-found.ensures.done none

-- ---- above a floor the same is left

pub returns-then-has_ended-clause-steps : goal.returns-then-has_ended-clause-steps
returns-then-has_ended-clause-steps g c so going =
    absurd (going (ap (λ (w : ScanWalk). w.left) (sym c.self.view_is) ∙ ended_none c.self.inside.left (sym c.has_ended.ensures ∙ c.if-has_ended.true)))

pub returns-clause-steps : goal.returns-clause-steps
returns-clause-steps g c so going =
    subst (λ (w : ScanWalk). StepsOn w.tables (g.D.Disk.world c.args.disk.now).seen.held w.merge c.next_pair.new.rows.merge) c.self.view_is (c.in_ok-found.ensures.steps so)

-- ---- only what may wake on the way is read

pub returns-in_err-found-clause-owed : goal.returns-in_err-found-clause-owed
returns-in_err-found-clause-owed g c m so shows =
    let image = (g.D.Disk.world c.args.disk.now).seen.held in
    let inside = subst (λ (w : ScanWalk). StillComes g.F.RangeFilter.spelling w m image) (sym c.self.view_is) shows in
    let here = subst (λ (w : ScanWalk). 1 ≤ step_bound w image) c.self.view_is
    (shows_owing g.D.Disk.tells so g.F.RangeFilter.spelling image _ m inside (sym c.has_ended.ensures ∙ c.if-has_ended.false) (c.in_err-found.ensures.owed so inside.sound)) in
    search rules

pub returns-then-has_ended-clause-late : goal.returns-then-has_ended-clause-late
returns-then-has_ended-clause-late g c =
    let image = (g.D.Disk.world c.args.disk.now).seen.held in
    subst (λ (w : ScanWalk). WakesLate g.D.Disk.tells w.tables image w.high (late_of w) c.self.inside.rows) c.self.view_is (late_same g.D.Disk.tells c.self.inside.tables.now.tables image _ c.self.inside.rows)

pub returns-in_err-found-clause-late : goal.returns-in_err-found-clause-late
returns-in_err-found-clause-late g c =
    let image = (g.D.Disk.world c.args.disk.now).seen.held in
    subst (λ (w : ScanWalk). WakesLate g.D.Disk.tells w.tables image w.high (late_of w) c.next_pair.new.rows) c.self.view_is c.next_pair.ensures.late

pub returns-clause-late : goal.returns-clause-late
returns-clause-late g c =
    let image = (g.D.Disk.world c.args.disk.now).seen.held in
    subst (λ (w : ScanWalk). WakesLate g.D.Disk.tells w.tables image w.high (late_of w) c.next_pair.new.rows) c.self.view_is c.next_pair.ensures.late
