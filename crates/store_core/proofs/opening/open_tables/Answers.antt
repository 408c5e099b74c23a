use Rattle.std.proofs.Common.{rules, ◌≡◌, ℕ, ◌+◌, ◌++◌, ◌∷◌, [], List, drop, get_or, take, suc, sym, ap, ap₂, subst, arith, ◌∙◌}
use Rattle.std.proofs.Math.Seq.{split_at, take-suc}
use Rattle.std.proofs.lemmas.List.{map-append}
use Rattle.std.proofs.lemmas.List.Edits.{insert_end}
use Rattle.std.specs.List.{AllByRecursion, insert}
use Rattle.byte_fields.specs.declared.parts.Row.{Row}
use Rattle.disk_trait.specs.Image.{Image}
use Rattle.image_model.specs.Opening.{IsOpened}
use Rattle.store_core.proofs.Causes.{fault_behind, table_cause}
use Rattle.store_core.proofs.Moved.{two_more}
use Rattle.store_core.proofs.OpeningTables.{all_opened, answer_behind, opened_more, table_answer}
use Rattle.store_core.specs.Faults.{of_table_fault}
use Rattle.store_core.specs.StoreValue.{rows_of}
use Rattle.store_core.specs.Opening.{AreOpened, IsTableAnswer, IsTablesAnswer}
use Rattle.table_file.specs.Opened.{IsOpen, Opened}
use Rattle.store_core.proofs.opening.open_tables.Goals as goal

abbrev no_row : Row
no_row = record { level = 0; first_page = 0; data_pages = 0; index_pages = 0; filter_pages = 0; entries = 0; index_len = 0; filter_len = 0; index_sum = 0; filter_sum = 0; hash_bits = 0; real_bits = 0; ratio = 0 }

pub returns-in_err-table-clause-answer : goal.returns-in_err-table-clause-answer
returns-in_err-table-clause-answer g c tells =
    let spelling = g.F.RangeFilter.spelling in
    let first = g.F.RangeFilter.first_fault in
    let rows = c.args.rows.now in
    let i = c.loop-row.row-index in
    let image = (g.D.Disk.world c.args.disk.now).seen.held in
    let row = get_or rows i no_row in
    let why = of_table_fault c.in_err-table.field-0.0 in
    let before = subst (AllByRecursion (IsOpened spelling image)) c.loop-row.invariant.rows (all_opened spelling image c.loop-row.tables.tables (c.loop-row.invariant.opened tells)) in
    let one = subst (λ (f : Image). IsTableAnswer spelling first row f why) c.loop-row.invariant.moves.held (table_answer spelling first (g.D.Disk.world c.loop-row.disk).seen.held row c.in_err-table.field-0.0 (c.in_err-table.ensures.damaged tells)) in
    let here : IsTablesAnswer spelling first rows image why =
    subst (λ (rs : List Row). IsTablesAnswer spelling first rs image why) (sym (split_at rows i no_row c.loop-row-test.true)) (answer_behind spelling first image (take i rows) (drop (suc i) rows) row why before one) in
    search rules

pub returns-in_err-table-clause-cause : goal.returns-in_err-table-clause-cause
returns-in_err-table-clause-cause g c =
    let a = g.D.Disk.world c.args.disk.now in
    let b = g.D.Disk.world c.loop-row.disk in
    let d = g.D.Disk.world c.open_table.new.disk in
    let fault = c.in_err-table.field-0.0 in
    let here = fault_behind a b d c.loop-row.invariant.moves.read_faults (of_table_fault fault) (table_cause (get_or c.args.rows.now c.loop-row.row-index no_row) b d fault c.in_err-table.ensures.cause) in
    search rules

pub loop-row-preserved : goal.loop-row-preserved
loop-row-preserved g c =
    let spelling = g.F.RangeFilter.spelling in
    let rows = c.args.rows.now in
    let i = c.loop-row.row-index in
    let ts = c.loop-row.tables.tables in
    let t = c.in_ok-table.table in
    let image = (g.D.Disk.world c.args.disk.now).seen.held in
    let next : suc i ≡ i + 1 = omega arith in
    let now_is : c.insert.new.self.tables ≡ ts ++ t ∷ [] = c.insert.ensures.tables ∙ ap (λ (n : ℕ). insert ts n t) c.len.ensures ∙ insert_end ts t in
    record {
      rows =
          ap rows_of now_is
          ∙ map-append _ ts (t ∷ [])
          ∙ ap₂ (λ (rs : List Row) (r : Row). rs ++ r ∷ []) c.loop-row.invariant.rows c.in_ok-table.ensures.row
          ∙ sym (take-suc rows i no_row c.loop-row-test.true)
          ∙ ap (λ (n : ℕ). take n rows) next;
      room = omega (arith, c.loop-row.invariant.room, c.insert.ensures.room);
      opened = λ tells.
          subst (λ (xs : List Opened). AreOpened spelling xs image) (sym now_is)
          (opened_more spelling image ts t (c.loop-row.invariant.opened tells)
          (subst (λ (f : Image). IsOpen spelling t f) c.loop-row.invariant.moves.held (c.in_ok-table.ensures.stands tells)));
      moves = two_more i _ _ _ c.loop-row.invariant.moves c.in_ok-table.ensures.moves;
    }
