use Rattle.std.proofs.Common.{rules, sym, subst, arith}
use Rattle.std.specs.Prelude.{MatchResult}
use Rattle.disk_trait.specs.Image.{Image}
use Rattle.image_model.specs.Stands.{IsStateOf}
use Rattle.table_model.specs.Tables.{filter_bytes_of}
use Rattle.store_core.specs.Opening.{IsOpenAnswer, IsOpenedAs}
use Rattle.store_core.proofs.Causes.{sync_rose}
use Rattle.store_core.proofs.Moved.{sync_moved, sync_then_reads}
use Rattle.store_core.proofs.OpenedStores.{opened_tied, synced_refusal}
use Rattle.store_core.proofs.store.Store.open_store.Goals as goal

pub returns-in_err-sync-clause-cause : goal.returns-in_err-sync-clause-cause
returns-in_err-sync-clause-cause g c =
    let here = sync_rose 0 (g.D.Disk.world c.args.disk.now) (g.D.Disk.world c.sync.new.self) c.in_err-sync.field-0.0 c.in_err-sync.ensures.fault c.in_err-sync.ensures.cause in
    search rules

pub returns-in_err-sync-clause-reads : goal.returns-in_err-sync-clause-reads
returns-in_err-sync-clause-reads g c s tells is = omega (arith, c.sync.ensures.moves.reads)

pub returns-in_err-sync-clause-moves : goal.returns-in_err-sync-clause-moves
returns-in_err-sync-clause-moves g c = sync_moved 2055 _ _ c.sync.ensures.moves

pub returns-clause-opens : goal.returns-clause-opens
returns-clause-opens g c s tells is =
    let spelling = g.F.RangeFilter.spelling in
    let first = g.F.RangeFilter.first_fault in
    let image = (g.D.Disk.world c.args.disk.now).seen.held in
    let answer = subst (λ (f : Image). MatchResult c.read_store.result (IsOpenedAs spelling f) (IsOpenAnswer spelling first f)) c.sync.ensures.moves.held (c.read_store.ensures.answer tells) in
    opened_tied spelling first (filter_bytes_of spelling g.F.RangeFilter.built_cutoff) g.met.F.RangeFilter.spells_one s image 2055 _ _ c.read_store.result is c.sync.ensures.moves.held
    c.in_ok-sync.ensures.durable c.read_store.ensures.moves answer

pub returns-clause-answer : goal.returns-clause-answer
returns-clause-answer g c tells =
    let spelling = g.F.RangeFilter.spelling in
    let first = g.F.RangeFilter.first_fault in
    subst (λ (f : Image). MatchResult c.read_store.result (IsOpenedAs spelling f) (IsOpenAnswer spelling first f)) c.sync.ensures.moves.held (c.read_store.ensures.answer tells)

pub returns-clause-cause : goal.returns-clause-cause
returns-clause-cause g c =
    synced_refusal (g.D.Disk.world c.args.disk.now) (g.D.Disk.world c.sync.new.self) (g.D.Disk.world c.read_store.new.disk) c.read_store.result c.sync.ensures.moves c.read_store.ensures.cause

pub returns-clause-reads : goal.returns-clause-reads
returns-clause-reads g c s tells is =
    let here = c.read_store.ensures.reads s tells (subst (IsStateOf g.F.RangeFilter.spelling s) (sym c.sync.ensures.moves.held) is) in
    omega (arith, here, c.sync.ensures.moves.reads)

pub returns-clause-moves : goal.returns-clause-moves
returns-clause-moves g c = sync_then_reads 2055 2055 _ _ _ (omega arith) c.sync.ensures.moves c.read_store.ensures.moves
