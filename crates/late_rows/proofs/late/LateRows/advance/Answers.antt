use Rattle.std.proofs.Common.{◌≡◌, ◌∙◌, ◌+◌, ◌<◌, ◌≤◌, List, length, map, slice_set, sym, ap, subst, false, arith}
use Rattle.std.specs.Prelude.{IsTrue, None, Option, Some}
use Rattle.std.specs.Option.{option_map}
use Rattle.std.proofs.lemmas.Bool.{false≢true}
use Rattle.disk_trait.specs.World.{ReadMoves}
use Rattle.map_model.specs.SortedMap.{Bytes}
use Rattle.merge_rows.specs.CatchingUp.{AdvancesBefore}
use Rattle.merge_rows.specs.Merges.{TableWalk}
use Rattle.merge_rows.specs.Reads.{PassSound, blocks_left, next_blocks}
use Rattle.merge_rows.specs.Rows.{KeyFloor}
use Rattle.merge_rows.specs.Steps.{AreHeadsClear, numbers}
use Rattle.merge_rows.proofs.Fills.{err_then, ok_then, on_ok_then}
use Rattle.merge_rows.proofs.Stays.{lengths_are, only_both}
use Rattle.late_rows.proofs.Awake.{fewer_sleep, no_key, sleepers, sleeps_within}
use Rattle.late_rows.proofs.Composed.{fails_then, goes_then, reads_then}
use Rattle.late_rows.proofs.Ending.{all_bounded, all_cause, all_counted, all_fault, all_late, all_left, all_met, all_owed, all_passed, all_row, all_spent, all_stays, all_tried, ok_from, on_err_then, some_from, sound_mid}
use Rattle.late_rows.proofs.Going.{goes_memory, goes_same, goes_woken, reads_memory, reads_same, reads_woken}
use Rattle.late_rows.proofs.Handing.{entry_row, goes_bounded, goes_opens, goes_stays, hands_out, least_row, next_of_some, none_before, none_below, opens_late, reads_most, ready_since, sleeps_above, some_row}
use Rattle.late_rows.proofs.Pacing.{all_paced, paced_before}
use Rattle.late_rows.specs.Going.{GoesOn, ReadsOn}
use Rattle.late_rows.specs.Late.{IsNext, LateMerge, waking_at, wanted_awake}
use Rattle.late_rows.specs.Opening.{SleepAbove}
use Rattle.late_rows.proofs.late.LateRows.advance.Goals as goal

pub loop-next-init : goal.loop-next-init
loop-next-init g c = record {
  goes = goes_same g.D.Disk.tells c.args.tables.now.tables c.args.self.now (g.D.Disk.world c.args.disk.now);
  reads = reads_same g.D.Disk.tells c.args.tables.now.tables c.args.self.now (g.D.Disk.world c.args.disk.now);
}

pub returns-then-comes_before : goal.returns-then-comes_before
returns-then-comes_before g c =
    let tells = g.D.Disk.tells in
    let tables = c.args.tables.now.tables in
    let before = g.D.Disk.world c.args.disk.now in
    let mid = g.D.Disk.world c.loop-next.disk in
    let after = g.D.Disk.world c.catch_up.new.disk in
    let first = c.args.self.now in
    let from = c.loop-next.self in
    let old = c.catch_up.new.self in
    let new = c.comes_before.new.self in
    let inv = c.loop-next.invariant in
    let caught = c.in-Ok.ensures in
    let goes = goes_then tells tables first from old before mid after inv.goes caught.asleep caught.goes in
    let reads = reads_then tells tables first from old before mid after inv.goes caught.asleep inv.reads caught.reads in
    let next = next_of_some from.asleep old.asleep c.sleeper.result c.in-Some.next c.in-Some.is c.sleeper.ensures.next caught.asleep in
    let key = next.0 in
    let keeps : first.merge.drops ≡ false = sym inv.goes.drops ∙ c.sleeper.ensures.whole in
    let ready = λ (t : IsTrue tells). ready_since tells tables first from old before mid inv.goes (caught.caught_up t) in
    let clear = subst (λ (f : KeyFloor). AreHeadsClear f old.merge.walks) (sym caught.goes.floor) caught.heads_pass in
    let steps = subst (AdvancesBefore key old.merge new.merge) c.if-comes_before.true (c.comes_before.ensures.before key next.1) in
    let asleep = c.comes_before.ensures.asleep in
    let still = c.comes_before.ensures.still in
    record {
      said = sym (some_row tells tables key first old new before after goes asleep next.2 ready clear still steps);
      late = opens_late tells tables key first old new before after goes asleep next.2 ready clear still steps keeps;
      row = hands_out tells tables key first old new before after goes asleep next.2 ready clear still steps keeps;
      stays = tt;
      paced = λ t. paced_before tells tables first old new before after goes asleep steps.walks (ready t) clear t;
      sound = entry_row tells tables key first old new before after goes asleep next.2 ready clear still steps;
      above = sleeps_above tells tables key first old new before after goes asleep next.2 ready clear still steps;
      least = least_row tells tables key first old new before after goes asleep next.2 ready clear still steps;
      read_all = λ none. no_key key (sym (none c.in-Some.next) ∙ ap (λ (os : List (Option Bytes)). waking_at os c.in-Some.next) asleep ∙ next.1);
      only_if_read = tt;
      only_if_wanted = λ t s. tt;
      bounded = λ t s. subst (λ (os : List (Option Bytes)). ReadMoves (wanted_awake first.merge.floor tables os first.merge.walks) before after) (sym asleep)
          (goes_bounded tells tables first old before after goes keeps t s reads);
      read_sound = λ t. subst (PassSound tables before.seen.held first.merge.walks) (sym steps.walks) (goes.read_sound t);
      ended = λ no. absurd (false≢true (sym no));
      never_memory = tt;
      cause = tt;
      fault = λ t. tt;
      moves = goes.moves;
      left = subst (λ (ws : List TableWalk). blocks_left tables ws ≤ blocks_left tables first.merge.walks) (sym steps.walks) reads.left;
      spent = λ t s. subst (λ (ws : List TableWalk). after.seen.reads + blocks_left tables ws ≤ before.seen.reads + blocks_left tables first.merge.walks) (sym steps.walks) (reads.spent t s.merge);
      tried = λ t s. tt;
      counted = λ t. subst (λ (ws : List TableWalk). after.seen.reads + next_blocks first.merge.walks ≡ before.seen.reads + next_blocks ws) (sym steps.walks) (reads.counted t);
    }

pub loop-next-preserved : goal.loop-next-preserved
loop-next-preserved g c =
    let tells = g.D.Disk.tells in
    let tables = c.args.tables.now.tables in
    let before = g.D.Disk.world c.args.disk.now in
    let mid = g.D.Disk.world c.loop-next.disk in
    let after = g.D.Disk.world c.catch_up.new.disk in
    let first = c.args.self.now in
    let from = c.loop-next.self in
    let old = c.catch_up.new.self in
    let new = c.comes_before.new.self in
    let woken = c.wake.new.self in
    let inv = c.loop-next.invariant in
    let caught = c.in-Ok.ensures in
    let goes = goes_then tells tables first from old before mid after inv.goes caught.asleep caught.goes in
    let reads = reads_then tells tables first from old before mid after inv.goes caught.asleep inv.reads caught.reads in
    let next = next_of_some from.asleep old.asleep c.sleeper.result c.in-Some.next c.in-Some.is c.sleeper.ensures.next caught.asleep in
    let key = next.0 in
    let ready = λ (t : IsTrue tells). ready_since tells tables first from old before mid inv.goes (caught.caught_up t) in
    let steps = subst (AdvancesBefore key old.merge new.merge) c.if-comes_before.false (c.comes_before.ensures.before key next.1) in
    let asleep = c.comes_before.ensures.asleep in
    let passed = goes_memory tells tables first old new before after goes asleep (none_before tells tables key first old new before after goes next.2 ready steps).floor steps.drops steps.walks steps.memory in
    let read = reads_memory tells tables first old new before after goes asleep (none_before tells tables key first old new before after goes next.2 ready steps).floor steps.drops steps.walks steps.memory reads in
    let slept : waking_at new.asleep c.in-Some.next ≡ Some key = ap (λ (os : List (Option Bytes)). waking_at os c.in-Some.next) asleep ∙ next.1 in
    let many : length new.merge.walks ≡ length from.merge.walks = lengths_are new.merge.walks from.merge.walks (ap numbers steps.walks ∙ caught.goes.numbers_are) in
    let within = sleeps_within from.asleep c.in-Some.next key (ap (λ (os : List (Option Bytes)). waking_at os c.in-Some.next) (sym caught.asleep) ∙ next.1) in
    let there : c.in-Some.next < length new.merge.walks = omega (arith, many, within, c.sleeper.ensures.many) in
    let late = none_below tells tables key first old new before after goes next.2 ready steps in
    record {
      goes = goes_woken tells tables first new woken before after c.in-Some.next key passed slept there c.wake.ensures.merge c.wake.ensures.asleep late;
      reads = reads_woken tells tables first new woken before after c.in-Some.next key passed slept there c.wake.ensures.merge c.wake.ensures.asleep late read;
    }

pub loop-next-smaller : goal.loop-next-smaller
loop-next-smaller g c =
    let from = c.loop-next.self in
    let next = next_of_some from.asleep c.catch_up.new.self.asleep c.sleeper.result c.in-Some.next c.in-Some.is c.sleeper.ensures.next c.in-Ok.ensures.asleep in
    let same = c.comes_before.ensures.asleep ∙ c.in-Ok.ensures.asleep in
    let fewer = fewer_sleep from.asleep c.in-Some.next next.0 (ap (λ (os : List (Option Bytes)). waking_at os c.in-Some.next) (sym c.in-Ok.ensures.asleep) ∙ next.1) in
    subst (λ (os : List (Option Bytes)). sleepers os < sleepers from.asleep) (sym (c.wake.ensures.asleep ∙ ap (λ (os : List (Option Bytes)). slice_set os c.in-Some.next None) same)) fewer

pub returns-in-Err : goal.returns-in-Err
returns-in-Err g c =
    let tells = g.D.Disk.tells in
    let tables = c.args.tables.now.tables in
    let before = g.D.Disk.world c.args.disk.now in
    let mid = g.D.Disk.world c.loop-next.disk in
    let after = g.D.Disk.world c.catch_up.new.disk in
    let first = c.args.self.now in
    let from = c.loop-next.self in
    let new = c.catch_up.new.self in
    let inv = c.loop-next.invariant in
    let keeps : first.merge.drops ≡ false = sym inv.goes.drops ∙ c.sleeper.ensures.whole in
    let goes = goes_then tells tables first from new before mid after inv.goes c.catch_up.ensures.asleep c.catch_up.ensures.goes in
    let fails = fails_then tells tables first from new before mid after inv.goes c.catch_up.ensures.asleep inv.reads c.in-Err.why c.in-Err.ensures.fails in
    record {
      said = tt;
      late = goes_opens tells tables first new before after goes keeps;
      row = tt;
      stays = goes_stays tells tables first new before after goes keeps fails.none;
      paced = λ t. tt;
      sound = tt;
      above = tt;
      least = tt;
      read_all = tt;
      only_if_read = fails.only_if_read;
      only_if_wanted = λ t s. fails.only_if_wanted t s.merge;
      bounded = λ t s. reads_most (wanted_awake first.merge.floor tables new.asleep first.merge.walks) before after goes.moves (fails.bounded t s.merge);
      read_sound = goes.read_sound;
      ended = tt;
      never_memory = fails.never_memory;
      cause = fails.cause;
      fault = fails.fault;
      moves = goes.moves;
      left = tt;
      spent = λ t s. tt;
      tried = λ t s. fails.tried t s.merge;
      counted = λ t. tt;
    }

-- all are awake: it is a step of the merge
pub invariant_of-self : goal.invariant_of-self
invariant_of-self g c =
    let kept = c.advance.ensures.kept in
    let awake = subst (λ (l : LateMerge). IsNext l.asleep None) (sym c.self.view_is) (subst (IsNext c.loop-next.self.asleep) c.in_default.is c.sleeper.ensures.next) in (
      c.self.invariant.0 ∙ sym (lengths_are c.advance.new.self.walks c.self.inside.rows.walks kept.numbers_are),
      λ at key is. no_key key (sym (awake at) ∙ is),
      c.self.invariant.2,
      kept.drops_are ∙ c.self.invariant.3,
    )

pub returns : goal.returns
returns g c =
    let tells = g.D.Disk.tells in
    let tables = c.args.tables.now.tables in
    let before = g.D.Disk.world c.args.disk.now in
    let mid = g.D.Disk.world c.loop-next.disk in
    let after = g.D.Disk.world c.advance.new.disk in
    let first = c.args.self.now in
    let now : LateMerge = record { merge = c.self.inside.rows; asleep = map (λ o. option_map (λ key. key.items) o) c.self.inside.asleep.items } in
    let next = c.advance.new.self in
    let a = c.advance.ensures in
    let result = c.advance.result in
    let inv = c.loop-next.invariant in
    let goes = subst (λ (l : LateMerge). GoesOn tells tables first l before mid) (sym c.self.view_is) inv.goes in
    let reads = subst (λ (l : LateMerge). ReadsOn tells tables first l before mid) (sym c.self.view_is) inv.reads in
    let awake = subst (λ (l : LateMerge). IsNext l.asleep None) (sym c.self.view_is) (subst (IsNext c.loop-next.self.asleep) c.in_default.is c.sleeper.ensures.next) in
    let keeps : first.merge.drops ≡ false = sym inv.goes.drops ∙ c.sleeper.ensures.whole in
    let whole : now.merge.drops ≡ false = goes.drops ∙ keeps in
    record {
      said = a.said;
      late = all_late tells tables first now next before mid after goes reads awake keeps a.kept;
      row = on_ok_then result _ _ a.row (all_row tells tables first now next before mid after goes reads awake keeps);
      stays = on_err_then result _ _ a.stays (all_stays tells tables first now next before mid after goes reads awake keeps);
      paced = λ t. on_ok_then result _ _ (a.caught_up_past t whole) (λ paced. all_paced tells tables first now next before mid goes paced t);
      sound = a.sound;
      above = ok_from result _ (some_from next.now (λ row. SleepAbove row.key now.asleep) (λ row at other is. no_key other (sym (awake at) ∙ is)));
      least = a.least;
      read_all = on_ok_then result _ _ a.read_all (λ is none. is);
      only_if_read = on_err_then result _ _ a.only_if_read (all_met tells tables first now next before mid after goes reads awake keeps);
      only_if_wanted = λ t s. on_err_then result _ _ (a.only_if_wanted t whole (sound_mid tells tables first now next before mid after goes reads awake keeps t s)) (all_owed tells tables first now next before mid after goes reads awake keeps t s);
      bounded = all_bounded tells tables first now next before mid after goes reads awake keeps a.moves (λ t s. a.bounded t whole s);
      read_sound = all_passed tells tables first now next before mid after goes reads awake keeps a.read_sound;
      ended = ok_then result _ _ a.ended (λ some is no. (awake, is no));
      never_memory = a.never_memory;
      cause = err_then result _ _ a.cause (all_cause tells tables first now next before mid after goes reads awake keeps);
      fault = λ t. err_then result _ _ (a.fault t) (all_fault tells tables first now next before mid after goes reads awake keeps);
      moves = only_both before mid after goes.moves a.moves;
      left = on_ok_then result _ _ a.left (all_left tells tables first now next before mid after goes reads awake keeps);
      spent = λ t s. on_ok_then result _ _ (a.spent t (sound_mid tells tables first now next before mid after goes reads awake keeps t s)) (all_spent tells tables first now next before mid after goes reads awake keeps t s);
      tried = λ t s. on_err_then result _ _ (a.tried t (sound_mid tells tables first now next before mid after goes reads awake keeps t s)) (all_tried tells tables first now next before mid after goes reads awake keeps t s);
      counted = λ t. on_ok_then result _ _ (a.counted t) (all_counted tells tables first now next before mid after goes reads awake keeps t);
    }
