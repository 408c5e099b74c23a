use Rattle.std.proofs.Common.{rules, ◌≡◌, ◌∙◌, ◌+◌, ◌*◌, ◌++◌, ◌∷◌, [], ℕ, List, get_or, length, suc, take, sym, ap, subst, arith}
use Rattle.std.proofs.lemmas.List.{length-append}
use Rattle.std.proofs.lemmas.List.Edits.{insert_end}
use Rattle.std.specs.List.{insert}
use Rattle.byte_fields.specs.declared.parts.Row.{Row}
use Rattle.disk_trait.proofs.Calls.{reads_then}
use Rattle.disk_trait.specs.Image.{Image}
use Rattle.disk_trait.specs.World.{ReadMoves}
use Rattle.store_check.proofs.Reopened.{all_taken, next_table, opened_undamaged, table_there, there_more}
use Rattle.store_check.specs.Summaries.{AreTablesThere}
use Rattle.store_check.proofs.summary.open_tables.Goals as goal
use Rattle.table_file.specs.Faults.{IsDamagedTable, IsNoDamage}
use Rattle.table_file.specs.Opened.{IsOpen, Opened}
use Rattle.table_model.specs.Images.{IsTableOf}
use Rattle.table_model.specs.Tables.{Table}

abbrev no_row : Row
no_row = record { level = 0; first_page = 0; data_pages = 0; index_pages = 0; filter_pages = 0; entries = 0; index_len = 0; filter_len = 0; index_sum = 0; filter_sum = 0; hash_bits = 0; real_bits = 0; ratio = 0 }

pub returns-in_err-table-clause-there : goal.returns-in_err-table-clause-there
returns-in_err-table-clause-there g c tables tells are =
    let f = g.F.RangeFilter in
    let image = (g.D.Disk.world c.args.disk.now).seen.held in
    let i = c.loop-row.row-index in
    let row = get_or c.args.rows.now i no_row in
    let next = next_table f.spelling image c.args.rows.now tables i no_row c.loop-row-test.true are in
    let fault = c.in_err-table.field-0.0 in
    let damaged = subst (λ (h : Image). IsDamagedTable f.spelling f.first_fault row h fault) c.loop-row.invariant.moves.held (c.in_err-table.ensures.damaged tells) in
    let here : IsNoDamage fault = opened_undamaged f.spelling image g.met.F.RangeFilter.spells_one f.first_fault row next.t fault next.is damaged in
    search rules

pub loop-row-preserved : goal.loop-row-preserved
loop-row-preserved g c =
    let f = g.F.RangeFilter in
    let image = (g.D.Disk.world c.args.disk.now).seen.held in
    let i = c.loop-row.row-index in
    let ts = c.loop-row.tables.tables in
    let t = c.in_ok-table.table in
    let more : suc i ≡ i + 1 = omega arith in
    let now_is : c.insert.new.self.tables ≡ ts ++ t ∷ [] = c.insert.ensures.tables ∙ ap (λ (n : ℕ). insert ts n t) c.len.ensures ∙ insert_end ts t in
    record {
      many = omega (arith, ap length now_is, length-append ts (t ∷ []), c.loop-row.invariant.many);
      room = omega (arith, c.loop-row.invariant.room, c.insert.ensures.room);
      there = λ tables tells are.
          let next = next_table f.spelling image c.args.rows.now tables i no_row c.loop-row-test.true are in
          let here = subst (λ (h : Image). IsOpen f.spelling t h) c.loop-row.invariant.moves.held (c.in_ok-table.ensures.stands tells) in
          let of = subst (λ (r : Row). IsTableOf f.spelling r next.t image) (sym c.in_ok-table.ensures.row) next.is in
          subst (λ (xs : List Opened). AreTablesThere f.spelling xs (take (i + 1) tables) image) (sym now_is)
          (subst (λ (us : List Table). AreTablesThere f.spelling (ts ++ t ∷ []) us image) (sym next.taken ∙ ap (λ (n : ℕ). take n tables) more)
          (there_more f.spelling image ts (take i tables) t next.t (c.loop-row.invariant.there tables tells are)
          (table_there f.spelling image g.met.F.RangeFilter.spells_one t next.t here of)));
      moves =
          let count : 2 * i + 2 ≡ 2 * (i + 1) = omega arith in
          subst (λ (n : ℕ). ReadMoves n (g.D.Disk.world c.args.disk.now) (g.D.Disk.world c.open_table.new.disk)) count
          (reads_then (2 * i) 2 (g.D.Disk.world c.args.disk.now) (g.D.Disk.world c.loop-row.disk) (g.D.Disk.world c.open_table.new.disk) c.loop-row.invariant.moves c.in_ok-table.ensures.moves);
    }

pub returns-clause-there : goal.returns-clause-there
returns-clause-there g c tables tells are =
    let f = g.F.RangeFilter in
    let image = (g.D.Disk.world c.args.disk.now).seen.held in
    let i = c.loop-row.row-index in
    let all : take i tables ≡ tables = all_taken f.spelling image c.args.rows.now tables i (omega (arith, c.loop-row-test.false)) are in
    subst (λ (us : List Table). AreTablesThere f.spelling c.loop-row.tables.tables us image) all (c.loop-row.invariant.there tables tells are)
