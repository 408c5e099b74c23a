use Rattle.std.proofs.Common.{◌≡◌, ◌∙◌, false, length, ap, subst}
use Rattle.std.specs.Prelude.{Some, None, if◌then◌else◌}
use Rattle.disk_trait.specs.Image.{Image}
use Rattle.table_file.specs.Walks.{CursorWalk, blocks_on, first_of, is_due, others_of, to_come}
use Rattle.table_file.proofs.Walks.{blocks_many, steps}
use Rattle.table_file.proofs.cursor.TableCursor.advance.Goals as goal

pub returns-clause-hands_out : goal.returns-clause-hands_out
returns-clause-hands_out g c tells =
    let t = c.args.table.now in
    let held = (g.D.Disk.world c.args.disk.now).seen.held in
    let first = c.fill.new.self in
    let mid = c.fill-2.new.self in
    let again : to_come mid (blocks_on t held) ≡ to_come first (blocks_on t held) =
    subst (λ (h : Image). to_come mid (blocks_on t h) ≡ to_come first (blocks_on t h)) c.fill.ensures.moves.held (c.fill-2.ensures.same tells) in
    let idle : is_due mid (length (blocks_on t held)) ≡ false =
    ap (is_due mid) (blocks_many t.row.first_page t.index.rows held) ∙ c.in_ok-fill-2.ensures.done c.in_ok-fill.ensures.settled in
    let inside = c.self.inside in
    let here : CursorWalk = record {
      room = c.step.new.self.room;
      bound = if inside.begun then None else Some inside.low.items;
      block = inside.block;
      now = c.step.new.self.now;
      later = c.step.new.self.later;
    } in
    steps c.args.self.now mid here (blocks_on t held) (again ∙ c.fill.ensures.same tells) idle
    (c.step.ensures.now ∙ ap (λ (w : CursorWalk). first_of w.later) c.self.view_is)
    (c.step.ensures.later ∙ ap (λ (w : CursorWalk). others_of w.later) c.self.view_is)
    (ap (λ (w : CursorWalk). w.bound) c.self.view_is)
    (ap (λ (w : CursorWalk). w.block) c.self.view_is)
