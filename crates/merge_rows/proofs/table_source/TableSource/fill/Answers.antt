use Rattle.std.proofs.Common.{◌≡◌, ◌≤◌, ◌∙◌, ℕ, true, length, refl, sym, ap, subst, arith}
use Rattle.std.specs.Prelude.{Option, Some}
use Rattle.disk_trait.specs.Image.{Image}
use Rattle.block_model.specs.Places.{byte_of_page}
use Rattle.merge_rows.specs.Merges.{TableWalk, numbered, row_count, with_hand}
use Rattle.merge_rows.specs.Reads.{is_used_up, ones}
use Rattle.merge_rows.specs.Rows.{above_floor}
use Rattle.table_file.specs.Opened.{Opened}
use Rattle.table_file.specs.Search.{IsGetFault, IsSoundBlock, page_at}
use Rattle.table_file.specs.Walks.{CursorWalk, HandsOut, blocks_on, is_due, to_come}
use Rattle.merge_rows.proofs.Fills.{cause_since, err_is, first_true, left_of, ok_is, read_same, wants_of}
use Rattle.merge_rows.proofs.SoundPasses.{blocks_of}
use Rattle.merge_rows.proofs.Steps.{failed_same}
use Rattle.merge_rows.proofs.table_source.TableSource.fill.Goals as goal
use Rattle.merge_rows.proofs.table_source.TableSource.fill.Goals.{in-Ok, in-Err}

pub returns-clause-same : goal.returns-clause-same
returns-clause-same g c t =
    let floor = c.args.floor.now in
    let tables = c.args.tables.now.tables in
    let held = (g.D.Disk.world c.args.disk.now).seen.held in
    let table = c.table_of-table.result.now in
    let blocks = blocks_on table held in
    let first = c.args.self.now in
    let mid = c.self-2.inside.walk in
    let new = c.advance-answer.new.self in
    let there : numbered tables first.number ≡ Some table = subst (λ (n : ℕ). numbered tables n ≡ Some table) (ap (λ (s : TableWalk). s.number) c.self.view_is) c.table_of-table.ensures in
    let walk_is : c.pass_over.new.self.walk ≡ mid = sym (ap (λ (s : TableWalk). s.walk) c.self-2.view_is) in
    let used : is_used_up floor mid.now ≡ true = subst (λ (w : CursorWalk). is_used_up floor w.now ≡ true) walk_is
    (first_true (is_used_up floor c.pass_over.new.self.walk.now) (is_due c.pass_over.new.self.walk (length table.index.rows)) (sym c.pass_over.ensures.wanted ∙ c.if-not-pass_over.false)) in
    let held_is = c.pass_over.ensures.moves.held in
    let step : above_floor floor (with_hand new.now (to_come new blocks)) ≡ above_floor floor (with_hand mid.now (to_come mid blocks)) =
    elim c.match-answer.branch as (λ _. above_floor floor (with_hand new.now (to_come new blocks)) ≡ above_floor floor (with_hand mid.now (to_come mid blocks))) [
      | in-Ok w ↦ read_same floor table held mid new w.in-Ok.field-0 used (subst (λ (h : Image). HandsOut mid new (blocks_on table h)) held_is (w.in-Ok.ensures.hands_out t)) w.in-Ok.ensures.said w.in-Ok.ensures.ends
      | in-Err w ↦ failed_same floor mid new blocks used w.in-Err.ensures.none_at_hand (subst (λ (h : Image). to_come new (blocks_on table h) ≡ to_come mid (blocks_on table h)) held_is (w.in-Err.ensures.stays t))
    ] in
    left_of tables held table first.number floor (record { number = c.self-2.inside.number; walk = new }) there (ap (λ (s : TableWalk). s.number) c.self-2.view_is ∙ c.pass_over.ensures.number)
    ∙ step
    ∙ sym (ap (λ (w : CursorWalk). above_floor floor (with_hand w.now (to_come w blocks))) walk_is)
    ∙ c.pass_over.ensures.same t
    ∙ sym (left_of tables held table first.number floor first there refl)

pub returns-clause-cause : goal.returns-clause-cause
returns-clause-cause g c = elim c.match-answer.branch [
  | in-Ok w ↦ ok_is _ c.match-answer.result true w.result-is
  | in-Err w ↦ err_is _ c.match-answer.result w.in-Err.why w.result-is (
    c.table_of-table.result.now,
    c.advance-answer.new.self.block,
    subst (λ (n : ℕ). numbered c.args.tables.now.tables n ≡ Some c.table_of-table.result.now) (ap (λ (s : TableWalk). s.number) c.self.view_is) c.table_of-table.ensures,
    w.in-Err.ensures.there,
    cause_since (byte_of_page (page_at c.table_of-table.result.now c.advance-answer.new.self.block)) (g.D.Disk.world c.args.disk.now) (g.D.Disk.world c.pass_over.new.disk) (g.D.Disk.world c.advance-answer.new.disk) w.in-Err.why c.pass_over.ensures.moves.read_faults w.in-Err.ensures.cause,
  )
]

pub returns-clause-fault : goal.returns-clause-fault
returns-clause-fault g c t = elim c.match-answer.branch [
  | in-Ok w ↦ ok_is _ c.match-answer.result true w.result-is
  | in-Err w ↦ err_is _ c.match-answer.result w.in-Err.why w.result-is (
    c.table_of-table.result.now,
    c.advance-answer.new.self.block,
    subst (λ (n : ℕ). numbered c.args.tables.now.tables n ≡ Some c.table_of-table.result.now) (ap (λ (s : TableWalk). s.number) c.self.view_is) c.table_of-table.ensures,
    w.in-Err.ensures.there,
    subst (λ (h : Image). IsGetFault c.table_of-table.result.now c.advance-answer.new.self.block h w.in-Err.why) c.pass_over.ensures.moves.held (w.in-Err.ensures.fault t),
  )
]

-- the blocks that the walk passed are those that were read for it
pub returns-clause-read_sound : goal.returns-clause-read_sound
returns-clause-read_sound g c t =
    let tables = c.args.tables.now.tables in
    let image = (g.D.Disk.world c.args.disk.now).seen.held in
    let table = c.table_of-table.result.now in
    let first = c.args.self.now in
    let mid = c.self-2.inside.walk in
    let new = c.advance-answer.new.self in
    let there : numbered tables first.number ≡ Some table = subst (λ (n : ℕ). numbered tables n ≡ Some table) (ap (λ (s : TableWalk). s.number) c.self.view_is) c.table_of-table.ensures in
    let block : mid.block ≡ first.walk.block = ap (λ (s : TableWalk). s.walk.block) c.self-2.view_is ∙ c.pass_over.ensures.block in
    record {
      number = ap (λ (s : TableWalk). s.number) c.self-2.view_is ∙ c.pass_over.ensures.number;
      onward = omega (arith, block, c.advance-answer.ensures.onward);
      sound = blocks_of (numbered tables first.number) table image first.walk.block new.block there
          (λ n low high. subst (λ (h : Image). IsSoundBlock table n h) c.pass_over.ensures.moves.held (c.advance-answer.ensures.sound n t (omega (arith, low, block)) high));
    }

-- where no block was read, none is wanted
pub returns-then-not-pass_over-clause-done : goal.returns-then-not-pass_over-clause-done
returns-then-not-pass_over-clause-done g c none =
    let tables = c.args.tables.now.tables in
    let table = c.table_of-table.result.now in
    let there : numbered tables c.args.self.now.number ≡ Some table = subst (λ (n : ℕ). numbered tables n ≡ Some table) (ap (λ (s : TableWalk). s.number) c.self.view_is) c.table_of-table.ensures in
    wants_of c.args.floor.now tables table c.pass_over.new.self (ap (numbered tables) c.pass_over.ensures.number ∙ there)
    ∙ ap ones (sym c.pass_over.ensures.wanted ∙ c.if-not-pass_over.true)

pub returns-then-not-pass_over-clause-read_all : goal.returns-then-not-pass_over-clause-read_all
returns-then-not-pass_over-clause-read_all g c none ends =
    let tables = c.args.tables.now.tables in
    let table = c.table_of-table.result.now in
    let new = c.pass_over.new.self in
    let there : numbered tables c.args.self.now.number ≡ Some table = subst (λ (n : ℕ). numbered tables n ≡ Some table) (ap (λ (s : TableWalk). s.number) c.self.view_is) c.table_of-table.ensures in
    subst (λ (o : Option Opened). row_count o ≤ new.walk.block) (sym (ap (numbered tables) c.pass_over.ensures.number ∙ there)) (c.pass_over.ensures.read_all c.if-not-pass_over.true ends)
