use Rattle.std.proofs.Common.{◌≡◌, ◌+◌, ◌*◌, suc, List, [], ◌∷◌, ◌++◌, drop, sym, ap, ◌∙◌, subst, arith}
use Rattle.std.specs.Option.{option_or}
use Rattle.std.specs.Prelude.{None, nat_lt}
use Rattle.byte_fields.specs.Faults.{refuse}
use Rattle.byte_fields.specs.declared.parts.Row.{Row}
use Rattle.extent_map.specs.Taken.{Taken}
use Rattle.manifest_model.specs.Reading.{table_row_fault, table_row_in}
use Rattle.manifest.proofs.Judged.{Judged, begun, one_more, as_found}
use Rattle.byte_fields.proofs.FaultLemmas.{neither}
use Rattle.manifest.proofs.Rows.{before_all, behind_head, has_pages, row_zeros}
use Rattle.manifest.proofs.reading.judged_rows.Goals as goal

pub loop-i-init : goal.loop-i-init
loop-i-init c =
    let format = c.get_u16-format.result in
    let head = c.settings_in-head.result in
    subst (λ (t : Taken). Judged format head c.args.pages 0 (drop 64 c.args.body.now) c.in_ok-rows.rows.items 0 None None None None t) (sym c.new-taken.ensures)
    (subst (λ (rows : List Row). Judged format head c.args.pages 0 (drop 64 c.args.body.now) rows 0 None None None None (record { pages = c.args.pages; extents = [] })) (sym c.in_ok-rows.ensures.items) (begun format head c.args.pages (drop 64 c.args.body.now)))

pub met_with-requires-clause-some : goal.met_with-requires-clause-some
met_with-requires-clause-some c none =
    let place = 64 + 64 * c.loop-i.i in
    let row = c.row_of-row.result in
    let shape : option_or c.loop-i.shape (table_row_fault place row) ≡ None = ap (option_or c.loop-i.shape) (sym c.row_rule.ensures) ∙ sym c.first_of-shape.ensures ∙ none in
    has_pages place row (neither c.loop-i.shape (table_row_fault place row) shape).1

pub loop-i-preserved : goal.loop-i-preserved
loop-i-preserved c =
    let format = c.get_u16-format.result in
    let head = c.settings_in-head.result in
    let pages = c.args.pages in
    let rest = drop 64 c.args.body.now in
    let i = c.loop-i.i in
    let place = 64 + 64 * i in
    let row = c.row_of-row.result in
    let so_far = c.loop-i.invariant in
    let here = behind_head i c.args.body.now in
    let zeros = c.first_of-zeros.ensures ∙ ap (option_or c.loop-i.zeros) (c.row_zeros_rule.ensures ∙ ap (row_zeros format place) here) in
    let shape : c.first_of-shape.result ≡ option_or c.loop-i.shape (table_row_fault place row) = c.first_of-shape.ensures ∙ ap (option_or c.loop-i.shape) c.row_rule.ensures in
    let order = c.first_of-order.ensures ∙ ap (option_or c.loop-i.order) c.level_rule.ensures in
    let earlier = before_all [] c.loop-i.rows.items in
    let next : i + 1 ≡ suc i = omega arith in
    as_found format head pages (suc i) (i + 1) rest (c.loop-i.rows.items ++ row ∷ []) c.push.new.self.items row.level
    (option_or c.loop-i.zeros (row_zeros format place (drop (64 * i) rest))) c.first_of-zeros.result (option_or c.loop-i.shape (table_row_fault place row)) c.first_of-shape.result
    (option_or c.loop-i.order (refuse (nat_lt row.level c.loop-i.level) place 9 None)) c.first_of-order.result c.in_ok-meeting.meeting c.met_with.new.taken
    next c.in_ok-push.ensures.items zeros shape order
    (one_more format head pages i rest c.loop-i.rows.items c.loop-i.level c.loop-i.zeros c.loop-i.shape c.loop-i.order c.loop-i.meeting c.loop-i.taken c.met_with.new.taken so_far row c.in_ok-meeting.meeting
    (c.row_of-row.ensures ∙ ap (table_row_in format head) here)
    (λ none. c.in_ok-meeting.ensures.met earlier (shape ∙ none) (so_far.taken_are (neither c.loop-i.shape (table_row_fault place row) none).0))
    (λ none. c.in_ok-meeting.ensures.taken earlier (shape ∙ none) (so_far.taken_are (neither c.loop-i.shape (table_row_fault place row) none).0))
    (c.in_ok-meeting.ensures.pages ∙ so_far.device))
