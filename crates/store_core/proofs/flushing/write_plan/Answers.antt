use Rattle.std.proofs.Common.{◌≡◌, ◌⊎◌, inl, inr, ◌≤◌, ◌+◌, ◌*◌, ℕ, sym, ap, refl, subst, arith}
use Rattle.manifest_model.specs.Laws.{IsVersion}
use Rattle.disk_trait.specs.World.{Leads, WriteMoves}
use Rattle.manifest.specs.Manifest.{Manifest, StandsInSlot, install_of, other_place}
use Rattle.manifest.specs.declared.fault.ManifestFault.{ManifestFault}
use Rattle.manifest_model.specs.Installs.{IsInstalled, IsOldOrNew}
use Rattle.std.specs.Prelude.{Ok}
use Rattle.state_model.specs.State.{State}
use Rattle.state_model.specs.View.{memory}
use Rattle.store_core.proofs.Flushes.{device_cause, installed, no_install, no_log, no_table, no_want, still_wanted, write_op}
use Rattle.store_core.proofs.Framing.{log_left, slot_left, table_left}
use Rattle.store_core.specs.Flushing.{FlushedTo, IsPlan}
use Rattle.store_core.specs.Running.{outputs_in}
use Rattle.store_core.specs.declared.flushing.Plan.{Plan}
use Rattle.store_core.proofs.flushing.write_plan.Goals as goal

small_area : (area : ℕ) → (64 * (area + 1) ≡ 64) ⊎ (64 * (area + 1) ≡ 128) → area ≤ 1
small_area area (inl first) = omega (arith, first)
small_area area (inr second) = omega (arith, second)

pub returns-in_err-write_parts-clause-replaces : goal.returns-in_err-write_parts-clause-replaces
returns-in_err-write_parts-clause-replaces g c store s over tells whole tied differs plan =
    let spelling = g.F.RangeFilter.spelling in
    let cutoff = g.F.RangeFilter.built_cutoff in
    let a = g.D.Disk.world c.args.disk.now in
    let b = g.D.Disk.world c.write_parts.new.disk in
    let seen = subst (λ (p : Plan g.row.F.Denot). IsPlan spelling cutoff store.manifest (outputs_in store.job) (memory over) p.parts p.row p.next) (sym c.plan.view_is) plan in
    subst (λ (o : State). FlushedTo spelling cutoff store s o c.args.plan.now.parts c.args.plan.now.row c.args.plan.now.next c.from_residual.result a b) (sym differs.0)
    (subst (λ (p : Plan g.row.F.Denot). FlushedTo spelling cutoff store s (record s { log = over.log }) p.parts p.row p.next c.from_residual.result a b) c.plan.view_is
    (no_table c.jobs_are_followed.ensures.image c.jobs_are_followed.ensures.flush spelling cutoff store s over.log _ _ _ whole seen differs.1 a tied (g.met.D.Disk.current c.args.disk.now tells)
    c.write_parts.result c.from_residual.result b c.write_parts.ensures.moves (c.write_parts.ensures.table 0 tells) (c.write_parts.ensures.stands 0 tells)
    c.from_residual.ensures.0 (no_want c.in_err-write_parts.field-0.0 c.from_residual.result c.from_residual.ensures.1)))

pub returns-in_err-write_parts-clause-cause : goal.returns-in_err-write_parts-clause-cause
returns-in_err-write_parts-clause-cause g c =
    device_cause c.in_err-write_parts.field-0.0 c.from_residual.result (g.D.Disk.world c.args.disk.now) (g.D.Disk.world c.write_parts.new.disk) c.from_residual.ensures.1
    (write_op _ _ _ c.in_err-write_parts.field-0.0 (c.in_err-write_parts.ensures.fault 0)) c.in_err-write_parts.ensures.cause

pub returns-in_err-log-clause-replaces : goal.returns-in_err-log-clause-replaces
returns-in_err-log-clause-replaces g c store s over tells whole tied differs plan =
    let spelling = g.F.RangeFilter.spelling in
    let cutoff = g.F.RangeFilter.built_cutoff in
    let a = g.D.Disk.world c.args.disk.now in
    let b = g.D.Disk.world c.write_parts.new.disk in
    let d = g.D.Disk.world c.start.new.disk in
    let seen = subst (λ (p : Plan g.row.F.Denot). IsPlan spelling cutoff store.manifest (outputs_in store.job) (memory over) p.parts p.row p.next) (sym c.plan.view_is) plan in
    let sound = subst (λ (p : Plan g.row.F.Denot). IsVersion p.next.version) (sym c.plan.view_is) c.requires.sound in
    subst (λ (o : State). FlushedTo spelling cutoff store s o c.args.plan.now.parts c.args.plan.now.row c.args.plan.now.next c.from_residual-in_err-log.result a d) (sym differs.0)
    (subst (λ (p : Plan g.row.F.Denot). FlushedTo spelling cutoff store s (record s { log = over.log }) p.parts p.row p.next c.from_residual-in_err-log.result a d) c.plan.view_is
    (no_log c.jobs_are_followed.ensures.image c.jobs_are_followed.ensures.flush spelling cutoff store s over.log _ _ _ whole seen differs.1 a tied (g.met.D.Disk.current c.args.disk.now tells)
    _ refl (small_area _ sound.log_page) b d c.write_parts.ensures.moves (c.in_ok-write_parts.ensures.table 0 tells) (c.in_ok-write_parts.ensures.stands 0 tells)
    c.start.ensures.moves c.start.result c.from_residual-in_err-log.result (c.start.ensures.stands tells)
    c.from_residual-in_err-log.ensures.0 (no_want c.in_err-log.field-0.0 c.from_residual-in_err-log.result c.from_residual-in_err-log.ensures.1)))

pub returns-in_err-install-clause-replaces : goal.returns-in_err-install-clause-replaces
returns-in_err-install-clause-replaces g c store s over tells whole tied differs plan =
    let spelling = g.F.RangeFilter.spelling in
    let cutoff = g.F.RangeFilter.built_cutoff in
    let a = g.D.Disk.world c.args.disk.now in
    let b = g.D.Disk.world c.write_parts.new.disk in
    let d = g.D.Disk.world c.start.new.disk in
    let e = g.D.Disk.world c.install.new.disk in
    let seen = subst (λ (p : Plan g.row.F.Denot). IsPlan spelling cutoff store.manifest (outputs_in store.job) (memory over) p.parts p.row p.next) (sym c.plan.view_is) plan in
    let sound = subst (λ (p : Plan g.row.F.Denot). IsVersion p.next.version) (sym c.plan.view_is) c.requires.sound in
    let same = ap (λ (m : Manifest). m.version.epoch) (sym plan.next_is) in
    let from = store.manifest.version in
    let moves = subst (λ (p : Plan g.row.F.Denot). WriteMoves (other_place p.next.slot) 131072 d e) (sym c.plan.view_is) c.install.ensures.moves in
    let leads = subst (λ (p : Plan g.row.F.Denot). Leads (StandsInSlot p.next.slot p.next.other_open from) (IsOldOrNew (install_of p.next from)) (IsInstalled (install_of p.next from)) c.install.result d e)
    (sym c.plan.view_is) (c.install.ensures.crash from tells same) in
    subst (λ (o : State). FlushedTo spelling cutoff store s o c.args.plan.now.parts c.args.plan.now.row c.args.plan.now.next c.from_residual-in_err-install.result a e) (sym differs.0)
    (subst (λ (p : Plan g.row.F.Denot). FlushedTo spelling cutoff store s (record s { log = over.log }) p.parts p.row p.next c.from_residual-in_err-install.result a e) c.plan.view_is
    (no_install c.jobs_are_followed.ensures.image c.jobs_are_followed.ensures.flush spelling cutoff store s over.log _ _ _ whole seen differs.1 a tied (g.met.D.Disk.current c.args.disk.now tells)
    _ refl (small_area _ sound.log_page) b d c.write_parts.ensures.moves (c.in_ok-write_parts.ensures.table 0 tells) (c.in_ok-write_parts.ensures.stands 0 tells)
    c.start.ensures.moves e (c.in_ok-log.ensures.stands tells) sound moves c.install.result c.from_residual-in_err-install.result leads
    c.from_residual-in_err-install.ensures.0 (still_wanted c.in_err-install.field-0.0 _ c.from_residual-in_err-install.result d e c.from_residual-in_err-install.ensures.1 c.in_err-install.ensures.cause)))

pub returns-clause-replaces : goal.returns-clause-replaces
returns-clause-replaces g c store s over tells whole tied differs plan =
    let spelling = g.F.RangeFilter.spelling in
    let cutoff = g.F.RangeFilter.built_cutoff in
    let a = g.D.Disk.world c.args.disk.now in
    let b = g.D.Disk.world c.write_parts.new.disk in
    let d = g.D.Disk.world c.start.new.disk in
    let e = g.D.Disk.world c.install.new.disk in
    let seen = subst (λ (p : Plan g.row.F.Denot). IsPlan spelling cutoff store.manifest (outputs_in store.job) (memory over) p.parts p.row p.next) (sym c.plan.view_is) plan in
    let sound = subst (λ (p : Plan g.row.F.Denot). IsVersion p.next.version) (sym c.plan.view_is) c.requires.sound in
    let same = ap (λ (m : Manifest). m.version.epoch) (sym plan.next_is) in
    let from = store.manifest.version in
    let moves = subst (λ (p : Plan g.row.F.Denot). WriteMoves (other_place p.next.slot) 131072 d e) (sym c.plan.view_is) c.install.ensures.moves in
    let leads = subst (λ (p : Plan g.row.F.Denot). Leads {E = ManifestFault} (StandsInSlot p.next.slot p.next.other_open from) (IsOldOrNew (install_of p.next from)) (IsInstalled (install_of p.next from)) (Ok c.in_ok-install.field-0) d e)
    (sym c.plan.view_is) (c.in_ok-install.ensures.crash from tells same) in
    subst (λ (o : State). FlushedTo spelling cutoff store s o c.args.plan.now.parts c.args.plan.now.row c.args.plan.now.next (Ok c.in_ok-log.log) a e) (sym differs.0)
    (subst (λ (p : Plan g.row.F.Denot). FlushedTo spelling cutoff store s (record s { log = over.log }) p.parts p.row p.next (Ok c.in_ok-log.log) a e) c.plan.view_is
    (installed c.jobs_are_followed.ensures.image c.jobs_are_followed.ensures.flush spelling cutoff store s over.log _ _ _ whole seen differs.1 a tied (g.met.D.Disk.current c.args.disk.now tells)
    _ refl (small_area _ sound.log_page) b d c.write_parts.ensures.moves (c.in_ok-write_parts.ensures.table 0 tells) (c.in_ok-write_parts.ensures.stands 0 tells)
    c.start.ensures.moves e (c.in_ok-log.ensures.stands tells) sound moves c.in_ok-install.field-0 c.in_ok-log.log leads))

-- ---- what is left as it was

pub returns-in_err-write_parts-clause-frame : goal.returns-in_err-write_parts-clause-frame
returns-in_err-write_parts-clause-frame g c m held entries is few laid plan =
    let seen = subst (λ (p : Plan g.row.F.Denot). IsPlan g.F.RangeFilter.spelling g.F.RangeFilter.built_cutoff m held entries p.parts p.row p.next) (sym c.plan.view_is) plan in
    table_left g.F.RangeFilter.spelling g.F.RangeFilter.built_cutoff m held entries _ _ _ is few laid seen _ _ c.write_parts.ensures.moves

pub returns-in_err-log-clause-frame : goal.returns-in_err-log-clause-frame
returns-in_err-log-clause-frame g c m held entries is few laid plan =
    let spelling = g.F.RangeFilter.spelling in
    let cutoff = g.F.RangeFilter.built_cutoff in
    let seen = subst (λ (p : Plan g.row.F.Denot). IsPlan g.F.RangeFilter.spelling g.F.RangeFilter.built_cutoff m held entries p.parts p.row p.next) (sym c.plan.view_is) plan in
    log_left spelling cutoff m held entries _ _ _ is few laid seen _ _ _ _ refl (table_left spelling cutoff m held entries _ _ _ is few laid seen _ _ c.write_parts.ensures.moves) c.start.ensures.moves

pub returns-in_err-install-clause-frame : goal.returns-in_err-install-clause-frame
returns-in_err-install-clause-frame g c m held entries is few laid plan =
    let spelling = g.F.RangeFilter.spelling in
    let cutoff = g.F.RangeFilter.built_cutoff in
    let d = g.D.Disk.world c.start.new.disk in
    let e = g.D.Disk.world c.install.new.disk in
    let seen = subst (λ (p : Plan g.row.F.Denot). IsPlan g.F.RangeFilter.spelling g.F.RangeFilter.built_cutoff m held entries p.parts p.row p.next) (sym c.plan.view_is) plan in
    let moves = subst (λ (p : Plan g.row.F.Denot). WriteMoves (other_place p.next.slot) 131072 d e) (sym c.plan.view_is) c.install.ensures.moves in
    slot_left spelling cutoff m held entries _ _ _ is few laid seen _ d e
    (log_left spelling cutoff m held entries _ _ _ is few laid seen _ _ d _ refl (table_left spelling cutoff m held entries _ _ _ is few laid seen _ _ c.write_parts.ensures.moves) c.start.ensures.moves) moves

pub returns-clause-frame : goal.returns-clause-frame
returns-clause-frame g c m held entries is few laid plan =
    let spelling = g.F.RangeFilter.spelling in
    let cutoff = g.F.RangeFilter.built_cutoff in
    let d = g.D.Disk.world c.start.new.disk in
    let e = g.D.Disk.world c.install.new.disk in
    let seen = subst (λ (p : Plan g.row.F.Denot). IsPlan g.F.RangeFilter.spelling g.F.RangeFilter.built_cutoff m held entries p.parts p.row p.next) (sym c.plan.view_is) plan in
    let moves = subst (λ (p : Plan g.row.F.Denot). WriteMoves (other_place p.next.slot) 131072 d e) (sym c.plan.view_is) c.install.ensures.moves in
    slot_left spelling cutoff m held entries _ _ _ is few laid seen _ d e
    (log_left spelling cutoff m held entries _ _ _ is few laid seen _ _ d _ refl (table_left spelling cutoff m held entries _ _ _ is few laid seen _ _ c.write_parts.ensures.moves) c.start.ensures.moves) moves
