use Rattle.std.proofs.Common.{◌≡◌, ◌∙◌, inl, inr, rules, List, length, sym, ap, subst, arith}
use Rattle.std.specs.List.{AllByRecursion, sum_by}
use Rattle.block_model.specs.Places.{FitsDevice}
use Rattle.byte_fields.specs.declared.parts.Row.{Row}
use Rattle.manifest.specs.Manifest.{Manifest}
use Rattle.manifest_model.proofs.Rows.{tables_fit}
use Rattle.store_check.proofs.Causes.{only_then, then_reads}
use Rattle.store_check.proofs.Reopened.{entries_many, rows_many}
use Rattle.store_check.proofs.Summarized.{log_again, of_state_again, tables_again}
use Rattle.store_check.proofs.Valued.{later_summary_cause, same_cause_given, same_given}
use Rattle.store_check.specs.Summaries.{IsUndamaged, row_entries}
use Rattle.store_check.proofs.summary.summarize.Goals as goal

pub count_pairs-requires-clause-fits : goal.count_pairs-requires-clause-fits
count_pairs-requires-clause-fits g c =
    let rows = ap (λ (m : Manifest). m.version.rows) (sym c.version.view_is) ∙ sym c.deref.ensures.value in
    subst (AllByRecursion FitsDevice) rows (tables_fit c.in_ok-version.version.version c.in_ok-version.ensures.sound)

pub log_records-requires : goal.log_records-requires
log_records-requires g c =
    let page = ap (λ (x : Manifest). x.version.log_page) c.version.view_is in
    elim c.in_ok-version.ensures.sound.log_page [ inl first ↦ omega (arith, first, page) | inr second ↦ omega (arith, second, page) ]

-- ---- no version

pub returns-in_err-version-clause-summary : goal.returns-in_err-version-clause-summary
returns-in_err-version-clause-summary g c s tells is =
    let here : IsUndamaged c.in_err-version.field-0.0 = c.in_err-version.ensures.exact is.0 tells is.1.version_is in
    search rules

-- ---- a log that is not replayed

pub returns-in_err-records-clause-summary : goal.returns-in_err-records-clause-summary
returns-in_err-records-clause-summary g c s tells is =
    let f = g.F.RangeFilter in
    let first = (g.D.Disk.world c.args.disk.now).seen.held in
    let there = (g.D.Disk.world c.version_now.new.disk).seen.held in
    let m = c.in_ok-version.version in
    let same : m.version ≡ is.0 = c.in_ok-version.ensures.exact is.0 tells is.1.version_is in
    let log = log_again f.spelling s first there c.version_now.ensures.moves.held is m same c.version.inside.log_area (ap (λ (x : Manifest). x.version.log_page) c.version.view_is) in
    let here : IsUndamaged c.in_err-records.field-0.0 = c.in_err-records.ensures.exact s.log tells log in
    search rules

pub returns-in_err-records-clause-moves : goal.returns-in_err-records-clause-moves
returns-in_err-records-clause-moves g c =
    then_reads 6 1 (g.D.Disk.world c.args.disk.now) (g.D.Disk.world c.version_now.new.disk) (g.D.Disk.world c.log_records.new.disk) c.version_now.ensures.moves c.log_records.ensures.moves

-- ---- pairs that are not counted

pub returns-in_err-live-clause-summary : goal.returns-in_err-live-clause-summary
returns-in_err-live-clause-summary g c s tells is =
    let f = g.F.RangeFilter in
    let first = (g.D.Disk.world c.args.disk.now).seen.held in
    let second = (g.D.Disk.world c.version_now.new.disk).seen.held in
    let there = (g.D.Disk.world c.log_records.new.disk).seen.held in
    let m = c.in_ok-version.version in
    let same : m.version ≡ is.0 = c.in_ok-version.ensures.exact is.0 tells is.1.version_is in
    let rows : c.deref.result.now ≡ is.0.rows = c.deref.ensures.value ∙ ap (λ (m : Manifest). m.version.rows) c.version.view_is ∙ ap (λ v. v.rows) same in
    let log = log_again f.spelling s first second c.version_now.ensures.moves.held is m same c.version.inside.log_area (ap (λ (x : Manifest). x.version.log_page) c.version.view_is) in
    let records : c.in_ok-records.records.items ≡ s.log = c.in_ok-records.ensures.exact s.log tells log in
    let held : there ≡ first = c.log_records.ensures.moves.held ∙ c.version_now.ensures.moves.held in
    same_given _ c.from_residual-in_err-live.result c.in_err-live.field-0.0 c.from_residual-in_err-live.ensures.1
    (c.in_err-live.ensures.pairs s tells (of_state_again f.spelling s first there held is c.deref.result.now c.in_ok-records.records.items rows records))

pub returns-in_err-live-clause-cause : goal.returns-in_err-live-clause-cause
returns-in_err-live-clause-cause g c =
    let a = g.D.Disk.world c.args.disk.now in
    let b = g.D.Disk.world c.version_now.new.disk in
    let d = g.D.Disk.world c.log_records.new.disk in
    let e = g.D.Disk.world c.count_pairs.new.disk in
    same_cause_given c.from_residual-in_err-live.result a e c.in_err-live.field-0.0 c.from_residual-in_err-live.ensures.1
    (later_summary_cause a d e c.in_err-live.field-0.0 (then_reads 6 1 a b d c.version_now.ensures.moves c.log_records.ensures.moves).1.read_faults c.in_err-live.ensures.cause)

pub returns-in_err-live-clause-moves : goal.returns-in_err-live-clause-moves
returns-in_err-live-clause-moves g c =
    let a = g.D.Disk.world c.args.disk.now in
    let b = g.D.Disk.world c.version_now.new.disk in
    let d = g.D.Disk.world c.log_records.new.disk in
    only_then a d (g.D.Disk.world c.count_pairs.new.disk) (then_reads 6 1 a b d c.version_now.ensures.moves c.log_records.ensures.moves) c.count_pairs.ensures.moves

-- ---- the summary

pub returns-clause-summary : goal.returns-clause-summary
returns-clause-summary g c s tells is =
    let f = g.F.RangeFilter in
    let first = (g.D.Disk.world c.args.disk.now).seen.held in
    let second = (g.D.Disk.world c.version_now.new.disk).seen.held in
    let there = (g.D.Disk.world c.log_records.new.disk).seen.held in
    let m = c.in_ok-version.version in
    let same : m.version ≡ is.0 = c.in_ok-version.ensures.exact is.0 tells is.1.version_is in
    let known : m.version.rows ≡ is.0.rows = ap (λ v. v.rows) same in
    let rows : c.deref.result.now ≡ is.0.rows = c.deref.ensures.value ∙ ap (λ (m : Manifest). m.version.rows) c.version.view_is ∙ known in
    let log = log_again f.spelling s first second c.version_now.ensures.moves.held is m same c.version.inside.log_area (ap (λ (x : Manifest). x.version.log_page) c.version.view_is) in
    let records : c.in_ok-records.records.items ≡ s.log = c.in_ok-records.ensures.exact s.log tells log in
    let held : there ≡ first = c.log_records.ensures.moves.held ∙ c.version_now.ensures.moves.held in
    let tables = tables_again f.spelling s first second c.version_now.ensures.moves.held is m.version.rows known in
    let of = of_state_again f.spelling s first there held is c.deref.result.now c.in_ok-records.records.items rows records in
    record {
      tables = omega (arith, c.len.ensures, ap (λ (x : Manifest). length x.version.rows) c.version.view_is, rows_many f.spelling second m.version.rows s.tables tables);
      entries = c.entries_of.ensures.sum ∙ ap (sum_by row_entries) (c.deref-2.ensures.value ∙ ap (λ (x : Manifest). x.version.rows) c.version.view_is) ∙ entries_many f.spelling second m.version.rows s.tables tables;
      live = c.in_ok-live.ensures.pairs s tells of;
      log = omega (arith, c.len-log.ensures, ap length records);
    }

pub returns-clause-moves : goal.returns-clause-moves
returns-clause-moves g c =
    let a = g.D.Disk.world c.args.disk.now in
    let b = g.D.Disk.world c.version_now.new.disk in
    let d = g.D.Disk.world c.log_records.new.disk in
    only_then a d (g.D.Disk.world c.count_pairs.new.disk) (then_reads 6 1 a b d c.version_now.ensures.moves c.log_records.ensures.moves) c.count_pairs.ensures.moves
