use Rattle.std.proofs.Common.{rules, sym, ap, subst, arith, inl, inr}
use Rattle.std.proofs.lemmas.Result.{IfOk-weaker}
use Rattle.disk_trait.proofs.Calls.{reads_then}
use Rattle.disk_trait.specs.Image.{Image}
use Rattle.gate_log.specs.Faults.{IsShapeIn}
use Rattle.log_model.specs.Area.{LogIs, Position}
use Rattle.manifest.specs.Manifest.{Manifest}
use Rattle.table_model.specs.Tables.{filter_bytes_of}
use Rattle.store_core.specs.StoreValue.{StoreValue}
use Rattle.store_core.proofs.OpenedStores.{free_of, log_answer, opened_log, opened_shows, parts_answer}
use Rattle.store_core.proofs.store.Store.read_store.Goals as goal

pub replay-requires : goal.replay-requires
replay-requires g c =
    let page = ap (λ (x : Manifest). x.version.log_page) c.version.view_is in
    elim c.in_ok-version.ensures.sound.log_page [ inl first ↦ omega (arith, first, page) | inr second ↦ omega (arith, second, page) ]

pub returns-in_err-log-clause-answer : goal.returns-in_err-log-clause-answer
returns-in_err-log-clause-answer g c tells =
    let found = c.in_ok-version.ensures.answer tells in
    let fault = c.in_err-log.field-0.0 in
    let area = c.version.inside.log_area in
    let shape = subst (λ (f : Image). IsShapeIn area f fault) c.open_version.ensures.moves.held (c.in_err-log.ensures.shape tells) in
    let here = log_answer g.F.RangeFilter.spelling g.F.RangeFilter.first_fault (g.D.Disk.world c.args.disk.now).seen.held c.in_ok-version.version found.loaded c.in_ok-version.tables.tables found.rows found.tables found.ranges
    area (ap (λ (x : Manifest). x.version.log_page) (sym c.version.view_is)) fault shape in
    search rules

pub returns-clause-answer : goal.returns-clause-answer
returns-clause-answer g c tells =
    let area = c.version.inside.log_area in
    let changes = c.in_ok-log.changes.items in
    parts_answer g.F.RangeFilter.spelling g.F.RangeFilter.first_fault (g.D.Disk.world c.args.disk.now).seen.held c.in_ok-version.version c.in_ok-version.tables.tables c.in_ok-log.log changes area c.of_parts.result
    (c.in_ok-version.ensures.answer tells) (ap (λ (x : Manifest). x.version.log_page) (sym c.version.view_is))
    (subst (λ (f : Image). LogIs area changes f) c.open_version.ensures.moves.held (c.in_ok-log.ensures.changes tells))
    (ap (λ (p : Position). p.filled) c.in_ok-log.ensures.log) c.of_parts.ensures.store c.of_parts.ensures.memory c.of_parts.ensures.cause

-- ---- of an image that stands for a state

pub returns-in_err-version-clause-shows : goal.returns-in_err-version-clause-shows
returns-in_err-version-clause-shows g c s tells is =
    let spelling = g.F.RangeFilter.spelling in
    let here = free_of spelling g.met.F.RangeFilter.spells_one s (g.D.Disk.world c.args.disk.now).seen.held is g.F.RangeFilter.first_fault c.in_err-version.field-0.0 (c.in_err-version.ensures.answer tells) in
    search rules

pub returns-in_err-log-clause-shows : goal.returns-in_err-log-clause-shows
returns-in_err-log-clause-shows g c s tells is =
    let spelling = g.F.RangeFilter.spelling in
    let first = g.F.RangeFilter.first_fault in
    opened_shows spelling first (filter_bytes_of spelling g.F.RangeFilter.built_cutoff) g.met.F.RangeFilter.spells_one s (g.D.Disk.world c.args.disk.now).seen.held c.from_residual-in_err-log.result is
    (returns-in_err-log-clause-answer g c tells)

pub returns-clause-shows : goal.returns-clause-shows
returns-clause-shows g c s tells is =
    let spelling = g.F.RangeFilter.spelling in
    opened_shows spelling g.F.RangeFilter.first_fault (filter_bytes_of spelling g.F.RangeFilter.built_cutoff) g.met.F.RangeFilter.spells_one s (g.D.Disk.world c.args.disk.now).seen.held c.of_parts.result is
    (returns-clause-answer g c tells)

pub returns-clause-log : goal.returns-clause-log
returns-clause-log g c s tells is =
    let spelling = g.F.RangeFilter.spelling in
    opened_log spelling g.F.RangeFilter.first_fault (filter_bytes_of spelling g.F.RangeFilter.built_cutoff) g.met.F.RangeFilter.spells_one s (g.D.Disk.world c.args.disk.now).seen.held c.of_parts.result is
    (returns-clause-answer g c tells)

pub returns-clause-idle : goal.returns-clause-idle
returns-clause-idle g c = IfOk-weaker c.of_parts.result _ _ (λ (store : StoreValue) same. ap (λ (k : StoreValue). k.job) same) c.of_parts.ensures.store

pub returns-clause-moves : goal.returns-clause-moves
returns-clause-moves g c =
    reads_then 2054 1 (g.D.Disk.world c.args.disk.now) (g.D.Disk.world c.open_version.new.disk) (g.D.Disk.world c.replay.new.disk) c.open_version.ensures.moves c.replay.ensures.moves
