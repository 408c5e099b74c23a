use Rattle.std.proofs.Common.{rules, ◌≡◌, ◌∙◌, ◌==◌, true, List, get_or, length, refl, sym, ap, subst, arith}
use Rattle.range_model.specs.Ranges.{DeletedRange}
use Rattle.std.specs.List.{sum_by}
use Rattle.block_model.specs.Places.{byte_of_page, index_page}
use Rattle.byte_fields.specs.declared.parts.Row.{Row}
use Rattle.disk_trait.specs.Image.{Image}
use Rattle.store_check.proofs.Causes.{no_reads, one_more, only_then}
use Rattle.store_check.proofs.Reopened.{all_taken, next_table}
use Rattle.store_check.proofs.Valued.{index_there, index_undamaged, later_summary_cause, read_cause_given, same_cause_given, same_given, table_counted}
use Rattle.store_check.specs.Values.{table_values}
use Rattle.store_check.proofs.values.values_of_tables.Goals as goal
use Rattle.store_check.proofs.Summarized.{undamaged_given}
use Rattle.table_file.specs.Faults.{IsIndexAnswer}
use Rattle.table_file.specs.Opened.{IsReadIndex}
use Rattle.table_model.specs.Damage.{AreSoundBlocks}

abbrev no_row : Row
no_row = record { level = 0; first_page = 0; data_pages = 0; index_pages = 0; filter_pages = 0; entries = 0; index_len = 0; filter_len = 0; index_sum = 0; filter_sum = 0; hash_bits = 0; real_bits = 0; ratio = 0 }

pub loop-row-init : goal.loop-row-init
loop-row-init g c = record { sum = λ spelling tables tells are. refl; most = omega arith; moves = no_reads (g.D.Disk.world c.args.disk.now) }

pub loop-row-preserved : goal.loop-row-preserved
loop-row-preserved g c =
    let l = c.loop-row in
    let a = g.D.Disk.world c.args.disk.now in
    let d = g.D.Disk.world c.read_index.new.disk in
    let x = c.in_ok-index.index in
    let i = l.row-index in
    let one = one_more 1 a (g.D.Disk.world l.disk) d l.invariant.moves c.read_index.ensures.moves in
    record {
      sum = λ spelling tables tells are.
          let next = next_table spelling a.seen.held c.args.rows.now tables i no_row c.loop-row-test.true are in
          let read = subst (λ (h : Image). IsReadIndex (get_or c.args.rows.now i no_row) h x) l.invariant.moves.1.held (c.in_ok-index.ensures.answer tells) in
          let there = index_there spelling (get_or c.args.rows.now i no_row) next.t a.seen.held x c.in_ok-index.ensures.row read next.is in
          table_counted x next.t a.seen.held d.seen.held one.1.held there tables i l.values c.in_ok-values.field-0 next.taken (l.invariant.sum spelling tables tells are)
          (c.in_ok-values.ensures.values tells);
      most = omega (arith, l.invariant.most, c.in_ok-values.ensures.most);
      moves = only_then a d (g.D.Disk.world c.values_of_blocks.new.disk) one c.values_of_blocks.ensures.moves;
    }

pub returns-in_err-index-clause-values : goal.returns-in_err-index-clause-values
returns-in_err-index-clause-values g c spelling tables tells are =
    let l = c.loop-row in
    let a = g.D.Disk.world c.args.disk.now in
    let row = get_or c.args.rows.now l.row-index no_row in
    let next = next_table spelling a.seen.held c.args.rows.now tables l.row-index no_row c.loop-row-test.true are in
    let fault = c.in_err-index.field-0.0 in
    undamaged_given c.from_residual.result _ fault c.from_residual.ensures.1
    (index_undamaged spelling row next.t a.seen.held fault next.is (subst (λ (h : Image). IsIndexAnswer row h fault) l.invariant.moves.1.held (c.in_err-index.ensures.answer tells)))

pub returns-in_err-index-clause-cause : goal.returns-in_err-index-clause-cause
returns-in_err-index-clause-cause g c =
    let l = c.loop-row in
    let row = get_or c.args.rows.now l.row-index no_row in
    read_cause_given c.from_residual.result (g.D.Disk.world c.args.disk.now) (g.D.Disk.world l.disk) (g.D.Disk.world c.read_index.new.disk) (byte_of_page (index_page row)) c.in_err-index.field-0.0
    l.invariant.moves.1.read_faults c.from_residual.ensures.1 c.in_err-index.ensures.cause

pub returns-in_err-index-clause-moves : goal.returns-in_err-index-clause-moves
returns-in_err-index-clause-moves g c =
    one_more 1 (g.D.Disk.world c.args.disk.now) (g.D.Disk.world c.loop-row.disk) (g.D.Disk.world c.read_index.new.disk) c.loop-row.invariant.moves c.read_index.ensures.moves

pub returns-in_err-values-clause-values : goal.returns-in_err-values-clause-values
returns-in_err-values-clause-values g c spelling tables tells are =
    let l = c.loop-row in
    let a = g.D.Disk.world c.args.disk.now in
    let d = g.D.Disk.world c.read_index.new.disk in
    let x = c.in_ok-index.index in
    let row = get_or c.args.rows.now l.row-index no_row in
    let one = one_more 1 a (g.D.Disk.world l.disk) d l.invariant.moves c.read_index.ensures.moves in
    let next = next_table spelling a.seen.held c.args.rows.now tables l.row-index no_row c.loop-row-test.true are in
    let read = subst (λ (h : Image). IsReadIndex row h x) l.invariant.moves.1.held (c.in_ok-index.ensures.answer tells) in
    let there = index_there spelling row next.t a.seen.held x c.in_ok-index.ensures.row read next.is in
    same_given _ c.from_residual-in_err-values.result c.in_err-values.field-0.0 c.from_residual-in_err-values.ensures.1
    (c.in_err-values.ensures.values tells (subst (λ (h : Image). AreSoundBlocks x.row.first_page x.index.rows h) (sym one.1.held) there.sound))

pub returns-in_err-values-clause-cause : goal.returns-in_err-values-clause-cause
returns-in_err-values-clause-cause g c =
    let l = c.loop-row in
    let a = g.D.Disk.world c.args.disk.now in
    let d = g.D.Disk.world c.read_index.new.disk in
    let e = g.D.Disk.world c.values_of_blocks.new.disk in
    let one = one_more 1 a (g.D.Disk.world l.disk) d l.invariant.moves c.read_index.ensures.moves in
    same_cause_given c.from_residual-in_err-values.result a e c.in_err-values.field-0.0 c.from_residual-in_err-values.ensures.1
    (later_summary_cause a d e c.in_err-values.field-0.0 one.1.read_faults c.in_err-values.ensures.cause)

pub returns-in_err-values-clause-moves : goal.returns-in_err-values-clause-moves
returns-in_err-values-clause-moves g c =
    let a = g.D.Disk.world c.args.disk.now in
    let d = g.D.Disk.world c.read_index.new.disk in
    only_then a d (g.D.Disk.world c.values_of_blocks.new.disk) (one_more 1 a (g.D.Disk.world c.loop-row.disk) d c.loop-row.invariant.moves c.read_index.ensures.moves) c.values_of_blocks.ensures.moves

pub returns-clause-values : goal.returns-clause-values
returns-clause-values g c spelling tables tells are =
    let image = (g.D.Disk.world c.args.disk.now).seen.held in
    let i = c.loop-row.row-index in
    c.loop-row.invariant.sum spelling tables tells are ∙ ap (sum_by table_values) (all_taken spelling image c.args.rows.now tables i (omega (arith, c.loop-row-test.false)) are)

pub returns-then-not-is_empty-clause-values : goal.returns-then-not-is_empty-clause-values
returns-then-not-is_empty-clause-values g c spelling tables tells are none =
    let l = c.loop-row in
    let a = g.D.Disk.world c.args.disk.now in
    let x = c.in_ok-index.index in
    let row = get_or c.args.rows.now l.row-index no_row in
    let next = next_table spelling a.seen.held c.args.rows.now tables l.row-index no_row c.loop-row-test.true are in
    let read = subst (λ (h : Image). IsReadIndex row h x) l.invariant.moves.1.held (c.in_ok-index.ensures.answer tells) in
    let there = index_there spelling row next.t a.seen.held x c.in_ok-index.ensures.row read next.is in
    let bare = c.ranges-in-loop-row.ensures ∙ there.ranges ∙ next.bare none in
    let here : c.is_empty.result ≡ true = c.is_empty.ensures ∙ ap (λ (rs : List DeletedRange). length rs == 0) bare in
    search rules

pub returns-then-not-is_empty-clause-moves : goal.returns-then-not-is_empty-clause-moves
returns-then-not-is_empty-clause-moves g c =
    one_more 1 (g.D.Disk.world c.args.disk.now) (g.D.Disk.world c.loop-row.disk) (g.D.Disk.world c.read_index.new.disk) c.loop-row.invariant.moves c.read_index.ensures.moves
