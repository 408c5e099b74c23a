use Rattle.std.proofs.Common.{◌≡◌, ◌∙◌, inr, true, false, length, sym, ap, subst}
use Rattle.std.specs.Prelude.{IsTrue, None, is_some}
use Rattle.disk_trait.specs.Image.{Image}
use Rattle.disk_trait.proofs.Calls.{reads_then}
use Rattle.merge_rows.specs.Merges.{TableWalk, with_hand}
use Rattle.merge_rows.specs.Reads.{is_used_up}
use Rattle.merge_rows.specs.Rows.{above_floor}
use Rattle.merge_rows.specs.Steps.{IsSoundWalk}
use Rattle.table_file.specs.Walks.{CursorWalk, HandsOut, blocks_on, is_due, to_come}
use Rattle.merge_rows.proofs.LeadOrder.{lead_ended}
use Rattle.merge_rows.proofs.SoundPasses.{above_has}
use Rattle.merge_rows.proofs.Steps.{caught_none, moved_walk, none_of, passed_all, passed_moved, passed_same, passed_sound, used_of, walk_ended}
use Rattle.merge_rows.proofs.table_source.TableSource.pass_over.Goals as goal

pub loop-self-preserved : goal.loop-self-preserved
loop-self-preserved g c =
    let floor = c.args.floor.now in
    let rows = length c.args.table.now.index.rows in
    let held = (g.D.Disk.world c.args.disk.now).seen.held in
    let blocks = blocks_on c.args.table.now held in
    let old = c.args.self.now.walk in
    let mid = c.self.inside.walk in
    let new = c.advance.new.self in
    let from = c.loop-self.invariant in
    let walk_is : c.loop-self.self.walk ≡ mid = sym (ap (λ (s : TableWalk). s.walk) c.self.view_is) in
    let used : is_used_up floor mid.now ≡ true = subst (λ (w : CursorWalk). is_used_up floor w.now ≡ true) walk_is (used_of (is_used_up floor c.loop-self.self.walk.now) c.loop-self-test.ensures) in
    let idle : is_due mid rows ≡ false = sym c.if-due.ensures.due in
    let some : is_some new.now ≡ true = sym c.in-Ok-true.ensures.said ∙ c.in-Ok-true.field-0-test in
    let out : IsTrue g.D.Disk.tells → HandsOut mid new blocks = λ t. subst (λ (h : Image). HandsOut mid new (blocks_on c.args.table.now h)) from.moves.held (c.in-Ok-true.ensures.hands_out t) in
    let sounds : IsTrue g.D.Disk.tells → IsSoundWalk floor old blocks → IsSoundWalk floor mid blocks = λ t s. subst (λ (w : CursorWalk). IsSoundWalk floor w blocks) walk_is (from.sound t s) in
    record {
      number = ap (λ (s : TableWalk). s.number) c.self.view_is ∙ from.number;
      room = c.advance.ensures.room ∙ ap (λ (s : TableWalk). s.walk.room) c.self.view_is ∙ from.room;
      block = (c.advance.ensures.at_hand idle).2 ∙ ap (λ (s : TableWalk). s.walk.block) c.self.view_is ∙ from.block;
      same = λ t. passed_same floor rows blocks old mid new used
          (subst (λ (w : CursorWalk). above_floor floor (with_hand w.now (to_come w blocks)) ≡ above_floor floor (with_hand old.now (to_come old blocks))) walk_is (from.same t)) some (out t);
      sound = λ t s. passed_sound floor rows blocks old mid new used some (out t) c.advance.ensures.goes_on (sounds t s);
      moved = inr (passed_moved floor rows blocks old mid new used sounds idle some out (moved_walk floor blocks c.loop-self.self c.args.self.now mid walk_is from.moved));
      moves = reads_then 0 0 _ _ _ from.moves (c.advance.ensures.idle idle).1;
    }

pub returns-in-Ok-false-clause-same : goal.returns-in-Ok-false-clause-same
returns-in-Ok-false-clause-same g c t =
    let floor = c.args.floor.now in
    let held = (g.D.Disk.world c.args.disk.now).seen.held in
    let blocks = blocks_on c.args.table.now held in
    let old = c.args.self.now.walk in
    let mid = c.self.inside.walk in
    let new = c.advance.new.self in
    let from = c.loop-self.invariant in
    let walk_is : c.loop-self.self.walk ≡ mid = sym (ap (λ (s : TableWalk). s.walk) c.self.view_is) in
    let used : is_used_up floor mid.now ≡ true = subst (λ (w : CursorWalk). is_used_up floor w.now ≡ true) walk_is (used_of (is_used_up floor c.loop-self.self.walk.now) c.loop-self-test.ensures) in
    let none : new.now ≡ None = none_of new.now (sym c.in-Ok-false.ensures.said ∙ c.in-Ok-false.field-0-test) in
    let out : HandsOut mid new blocks = subst (λ (h : Image). HandsOut mid new (blocks_on c.args.table.now h)) from.moves.held (c.in-Ok-false.ensures.hands_out t) in
    passed_all floor mid new blocks used none (walk_ended c.args.table.now held new (c.in-Ok-false.ensures.ends c.in-Ok-false.field-0-test)) out
    ∙ subst (λ (w : CursorWalk). above_floor floor (with_hand w.now (to_come w blocks)) ≡ above_floor floor (with_hand old.now (to_come old blocks))) walk_is (from.same t)

pub returns-in-Ok-false-clause-caught_up : goal.returns-in-Ok-false-clause-caught_up
returns-in-Ok-false-clause-caught_up g c t wants =
    let held = (g.D.Disk.world c.args.disk.now).seen.held in
    let new = c.advance.new.self in
    caught_none c.args.floor.now new.now (to_come new (blocks_on c.args.table.now held)) (none_of new.now (sym c.in-Ok-false.ensures.said ∙ c.in-Ok-false.field-0-test))
    (walk_ended c.args.table.now held new (c.in-Ok-false.ensures.ends c.in-Ok-false.field-0-test))

pub invariant_of-self-in-Ok-false : goal.invariant_of-self-in-Ok-false
invariant_of-self-in-Ok-false g c = lead_ended c.advance.new.self.now (none_of c.advance.new.self.now (sym c.in-Ok-false.ensures.said ∙ c.in-Ok-false.field-0-test))

-- ---- where no entry is at hand, all blocks were read

pub returns-in-Ok-false-clause-read_all : goal.returns-in-Ok-false-clause-read_all
returns-in-Ok-false-clause-read_all g c wants none = (c.in-Ok-false.ensures.ends c.in-Ok-false.field-0-test).0

pub returns-clause-read_all : goal.returns-clause-read_all
returns-clause-read_all g c wants none = absurd (above_has c.args.floor.now c.loop-self.self.walk.now c.loop-self-test.ensures none)
