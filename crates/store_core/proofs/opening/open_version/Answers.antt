use Rattle.std.proofs.Common.{rules, ◌≡◌, ◌∙◌, List, length, sym, ap, subst, arith}
use Rattle.std.specs.Prelude.{map}
use Rattle.std.specs.List.{AllByRecursion}
use Rattle.block_model.specs.Places.{FitsDevice}
use Rattle.disk_trait.proofs.Calls.{reads_more}
use Rattle.disk_trait.specs.Image.{Image}
use Rattle.manifest.specs.Manifest.{Manifest}
use Rattle.manifest_model.proofs.Rows.{tables_fit}
use Rattle.manifest_model.specs.Tables.{ranges_fault}
use Rattle.table_file.specs.Opened.{Opened}
use Rattle.store_core.specs.Opening.{AreOpened, opened_range}
use Rattle.store_core.proofs.Causes.{load_cause, refusal_behind, tables_cause}
use Rattle.store_core.proofs.Moved.{loaded_then_opened}
use Rattle.store_core.proofs.OpenedStores.{as_few, load_answer, order_answer, rows_many, same_ranges, same_tables_answer, tables_answer}
use Rattle.store_core.proofs.opening.open_version.Goals as goal

pub returns-in_err-version-clause-answer : goal.returns-in_err-version-clause-answer
returns-in_err-version-clause-answer g c tells =
    let here = load_answer g.F.RangeFilter.spelling g.F.RangeFilter.first_fault (g.D.Disk.world c.args.disk.now).seen.held c.in_err-version.field-0.0 (c.in_err-version.ensures.answer tells) in
    search rules

pub returns-in_err-version-clause-cause : goal.returns-in_err-version-clause-cause
returns-in_err-version-clause-cause g c =
    let here = load_cause (g.D.Disk.world c.args.disk.now) (g.D.Disk.world c.load.new.disk) c.in_err-version.field-0.0 c.in_err-version.ensures.cause in
    search rules

pub returns-in_err-version-clause-reads : goal.returns-in_err-version-clause-reads
returns-in_err-version-clause-reads g c s tells is = omega (arith, c.load.ensures.moves.reads)

pub returns-in_err-version-clause-moves : goal.returns-in_err-version-clause-moves
returns-in_err-version-clause-moves g c = reads_more 6 _ _ _ (omega arith) c.load.ensures.moves

pub open_tables-requires : goal.open_tables-requires
open_tables-requires g c =
    let rows = ap (λ (m : Manifest). m.version.rows) (sym c.version.view_is) ∙ sym c.deref.ensures.value in
    subst (AllByRecursion FitsDevice) rows (tables_fit c.in_ok-version.version.version c.in_ok-version.ensures.sound)

pub returns-in_err-tables-clause-answer : goal.returns-in_err-tables-clause-answer
returns-in_err-tables-clause-answer g c tells =
    let spelling = g.F.RangeFilter.spelling in
    let first = g.F.RangeFilter.first_fault in
    let m = c.in_ok-version.version in
    let why = c.in_err-tables.field-0.0 in
    let image = (g.D.Disk.world c.args.disk.now).seen.held in
    let rows : m.version.rows ≡ c.deref.result.now = ap (λ (x : Manifest). x.version.rows) (sym c.version.view_is) ∙ sym c.deref.ensures.value in
    let here = tables_answer spelling first image m (c.in_ok-version.ensures.answer tells) why
    (same_tables_answer spelling first m.version.rows c.deref.result.now image (g.D.Disk.world c.load.new.disk).seen.held why
    rows c.load.ensures.moves.held (c.in_err-tables.ensures.answer tells)) in
    search rules

pub returns-in_err-tables-clause-cause : goal.returns-in_err-tables-clause-cause
returns-in_err-tables-clause-cause g c =
    let a = g.D.Disk.world c.args.disk.now in
    let b = g.D.Disk.world c.load.new.disk in
    let d = g.D.Disk.world c.open_tables.new.disk in
    let here = refusal_behind a b d c.load.ensures.moves.read_faults (omega (arith, c.load.ensures.moves.write_faults)) c.in_err-tables.field-0.0
    (tables_cause b d c.in_err-tables.field-0.0 c.in_err-tables.ensures.cause) in
    search rules

pub returns-in_err-tables-clause-reads : goal.returns-in_err-tables-clause-reads
returns-in_err-tables-clause-reads g c s tells is =
    let m = c.in_ok-version.version in
    let rows : m.version.rows ≡ c.deref.result.now = ap (λ (x : Manifest). x.version.rows) (sym c.version.view_is) ∙ sym c.deref.ensures.value in
    let many = rows_many g.F.RangeFilter.spelling g.met.F.RangeFilter.spells_one s (g.D.Disk.world c.args.disk.now).seen.held is m (c.in_ok-version.ensures.answer tells) in
    omega (arith, c.load.ensures.moves.reads, c.open_tables.ensures.moves.reads, ap length rows, many)

pub returns-in_err-tables-clause-moves : goal.returns-in_err-tables-clause-moves
returns-in_err-tables-clause-moves g c =
    let m = c.in_ok-version.version in
    let rows : m.version.rows ≡ c.deref.result.now = ap (λ (x : Manifest). x.version.rows) (sym c.version.view_is) ∙ sym c.deref.ensures.value in
    loaded_then_opened (length c.deref.result.now) _ _ _ (omega (arith, ap length rows, c.in_ok-version.ensures.sound.few_tables)) c.load.ensures.moves c.open_tables.ensures.moves

pub check_order-requires-clause-few : goal.check_order-requires-clause-few
check_order-requires-clause-few g c =
    let m = c.in_ok-version.version in
    let rows : m.version.rows ≡ c.deref.result.now = ap (λ (x : Manifest). x.version.rows) (sym c.version.view_is) ∙ sym c.deref.ensures.value in
    let many = as_few c.in_ok-tables.tables.tables m.version.rows (c.in_ok-tables.ensures.rows ∙ sym rows) in
    omega (arith, ap length c.as_slice.ensures, many, c.in_ok-version.ensures.sound.few_tables)

pub check_order-requires-clause-slot : goal.check_order-requires-clause-slot
check_order-requires-clause-slot g c = omega (arith, ap (λ (x : Manifest). x.slot) c.version.view_is, c.in_ok-version.ensures.slot)

pub returns-in-Ok-clause-answer : goal.returns-in-Ok-clause-answer
returns-in-Ok-clause-answer g c tells =
    let m = c.in_ok-version.version in
    let rows : m.version.rows ≡ c.deref.result.now = ap (λ (x : Manifest). x.version.rows) (sym c.version.view_is) ∙ sym c.deref.ensures.value in
    record {
      loaded = c.in_ok-version.ensures.answer tells;
      rows = c.in_ok-tables.ensures.rows ∙ sym rows;
      tables = subst (λ (f : Image). AreOpened g.F.RangeFilter.spelling c.in_ok-tables.tables.tables f) c.load.ensures.moves.held (c.in_ok-tables.ensures.answer tells);
      ranges = ap (λ (ts : List Opened). ranges_fault (map opened_range ts)) (sym c.as_slice.ensures) ∙ c.in-Ok.ensures;
    }

pub returns-in-Ok-clause-rows : goal.returns-in-Ok-clause-rows
returns-in-Ok-clause-rows g c =
    let m = c.in_ok-version.version in
    let rows : m.version.rows ≡ c.deref.result.now = ap (λ (x : Manifest). x.version.rows) (sym c.version.view_is) ∙ sym c.deref.ensures.value in
    c.in_ok-tables.ensures.rows ∙ sym rows

pub returns-in-Ok-clause-reads : goal.returns-in-Ok-clause-reads
returns-in-Ok-clause-reads g c s tells is =
    let m = c.in_ok-version.version in
    let rows : m.version.rows ≡ c.deref.result.now = ap (λ (x : Manifest). x.version.rows) (sym c.version.view_is) ∙ sym c.deref.ensures.value in
    let many = rows_many g.F.RangeFilter.spelling g.met.F.RangeFilter.spells_one s (g.D.Disk.world c.args.disk.now).seen.held is m (c.in_ok-version.ensures.answer tells) in
    omega (arith, c.load.ensures.moves.reads, c.open_tables.ensures.moves.reads, ap length rows, many)

pub returns-in-Ok-clause-moves : goal.returns-in-Ok-clause-moves
returns-in-Ok-clause-moves g c =
    let m = c.in_ok-version.version in
    let rows : m.version.rows ≡ c.deref.result.now = ap (λ (x : Manifest). x.version.rows) (sym c.version.view_is) ∙ sym c.deref.ensures.value in
    loaded_then_opened (length c.deref.result.now) _ _ _ (omega (arith, ap length rows, c.in_ok-version.ensures.sound.few_tables)) c.load.ensures.moves c.open_tables.ensures.moves

pub returns-in-Err-clause-answer : goal.returns-in-Err-clause-answer
returns-in-Err-clause-answer g c tells =
    let m = c.in_ok-version.version in
    let ts = c.in_ok-tables.tables.tables in
    let image = (g.D.Disk.world c.args.disk.now).seen.held in
    let rows : m.version.rows ≡ c.deref.result.now = ap (λ (x : Manifest). x.version.rows) (sym c.version.view_is) ∙ sym c.deref.ensures.value in
    order_answer g.F.RangeFilter.spelling g.F.RangeFilter.first_fault image m (c.in_ok-version.ensures.answer tells) ts (c.in_ok-tables.ensures.rows ∙ sym rows)
    (subst (λ (f : Image). AreOpened g.F.RangeFilter.spelling ts f) c.load.ensures.moves.held (c.in_ok-tables.ensures.answer tells))
    c.in-Err.damage (same_ranges m.slot c.version.inside.slot ts c.as_slice.result.now c.in-Err.damage (ap (λ (x : Manifest). x.slot) (sym c.version.view_is)) c.as_slice.ensures c.in-Err.ensures)

pub returns-in-Err-clause-reads : goal.returns-in-Err-clause-reads
returns-in-Err-clause-reads g c s tells is =
    let m = c.in_ok-version.version in
    let rows : m.version.rows ≡ c.deref.result.now = ap (λ (x : Manifest). x.version.rows) (sym c.version.view_is) ∙ sym c.deref.ensures.value in
    let many = rows_many g.F.RangeFilter.spelling g.met.F.RangeFilter.spells_one s (g.D.Disk.world c.args.disk.now).seen.held is m (c.in_ok-version.ensures.answer tells) in
    omega (arith, c.load.ensures.moves.reads, c.open_tables.ensures.moves.reads, ap length rows, many)

pub returns-in-Err-clause-moves : goal.returns-in-Err-clause-moves
returns-in-Err-clause-moves g c =
    let m = c.in_ok-version.version in
    let rows : m.version.rows ≡ c.deref.result.now = ap (λ (x : Manifest). x.version.rows) (sym c.version.view_is) ∙ sym c.deref.ensures.value in
    loaded_then_opened (length c.deref.result.now) _ _ _ (omega (arith, ap length rows, c.in_ok-version.ensures.sound.few_tables)) c.load.ensures.moves c.open_tables.ensures.moves
