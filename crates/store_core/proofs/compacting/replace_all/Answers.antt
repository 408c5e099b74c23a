use Rattle.std.proofs.Common.{◌≡◌, ◌∙◌, List, sym, ap, subst, arith}
use Rattle.std.specs.Prelude.{Ok, Err}
use Rattle.disk_trait.specs.World.{Leads, WriteMoves}
use Rattle.log_model.specs.Area.{Position, start_of}
use Rattle.manifest.specs.Causes.{HasInstallCause}
use Rattle.manifest.specs.Manifest.{Manifest, StandsInSlot, install_of, other_place}
use Rattle.manifest.specs.declared.fault.ManifestFault.{ManifestFault}
use Rattle.manifest_model.specs.Installs.{IsInstalled, IsOldOrNew}
use Rattle.manifest_model.specs.Laws.{IsVersion}
use Rattle.manifest_model.specs.Version.{log_page_of}
use Rattle.table_file.specs.Opened.{Opened}
use Rattle.table_model.specs.Tables.{filter_bytes_of}
use Rattle.store_core.specs.Compacting.{AreAllMade, AreCompact, StandAlone}
use Rattle.store_core.specs.Flushing.{installed_manifest, other_log_page}
use Rattle.store_core.specs.Framing.{IsInUse}
use Rattle.store_core.specs.StoreValue.{rows_of}
use Rattle.store_core.proofs.Framing.{gate_outside, leaves_then, leaves_write, slot_outside}
use Rattle.store_core.proofs.CompactDone.{fails_by, fails_wanting, install_done, install_fails_so, install_meanwhile, installed_whole, log_failed, log_fails_so, moved_write, other_area_of, passed_so, stays_map}
use Rattle.store_core.proofs.CompactSlices.{later_rose}
use Rattle.store_core.proofs.CompactVersions.{compacted_is_version}
use Rattle.store_core.proofs.InstallRefusals.{through_writes}
use Rattle.store_core.proofs.compacting.replace_all.Goals as goal

pub returns-in_err-made-clause-meanwhile : goal.returns-in_err-made-clause-meanwhile
returns-in_err-made-clause-meanwhile g c s tells held some =
    stays_map g.F.RangeFilter.spelling (filter_bytes_of g.F.RangeFilter.spelling g.F.RangeFilter.built_cutoff) c.args.version.now c.args.tables.now.tables c.args.memory.now.entries s _ _ c.requires.slot c.requires.rows c.requires.sound c.requires.epoch
    held (g.met.D.Disk.current c.args.disk.now tells) some (c.in_err-made.ensures.stays s tells held)

pub returns-in_err-made-clause-done : goal.returns-in_err-made-clause-done
returns-in_err-made-clause-done g c s tells held some =
    let spelling = g.F.RangeFilter.spelling in
    let bytes = filter_bytes_of g.F.RangeFilter.spelling g.F.RangeFilter.built_cutoff in
    let a = g.D.Disk.world c.args.disk.now in
    let b = g.D.Disk.world c.write_all.new.disk in
    let stays = c.in_err-made.ensures.stays s tells held in
    passed_so c.from_residual.result _ _ _ c.from_residual.ensures.1
    (fails_by spelling bytes c.args.version.now c.args.tables.now.tables c.args.memory.now.entries s a b c.requires.slot c.requires.rows c.requires.sound c.requires.epoch held (g.met.D.Disk.current c.args.disk.now tells) some stays
    c.in_err-made.field-0.0 (c.in_err-made.ensures.made s tells held))

pub returns-in_err-all-clause-meanwhile : goal.returns-in_err-all-clause-meanwhile
returns-in_err-all-clause-meanwhile g c s tells held some =
    stays_map g.F.RangeFilter.spelling (filter_bytes_of g.F.RangeFilter.spelling g.F.RangeFilter.built_cutoff) c.args.version.now c.args.tables.now.tables c.args.memory.now.entries s _ _ c.requires.slot c.requires.rows c.requires.sound c.requires.epoch
    held (g.met.D.Disk.current c.args.disk.now tells) some (c.in_ok-made.ensures.stays s tells held)

pub returns-in_err-all-clause-done : goal.returns-in_err-all-clause-done
returns-in_err-all-clause-done g c s tells held some =
    passed_so c.from_residual-in_err-all.result _ _ _ c.from_residual-in_err-all.ensures.1
    (fails_wanting g.F.RangeFilter.spelling (filter_bytes_of g.F.RangeFilter.spelling g.F.RangeFilter.built_cutoff) c.args.version.now c.args.tables.now.tables c.args.memory.now.entries s _ _ c.requires.slot c.requires.rows c.requires.sound
    c.requires.epoch held (g.met.D.Disk.current c.args.disk.now tells) some (c.in_ok-made.ensures.stays s tells held))

pub returns-in_err-next-clause-meanwhile : goal.returns-in_err-next-clause-meanwhile
returns-in_err-next-clause-meanwhile g c s tells held some =
    stays_map g.F.RangeFilter.spelling (filter_bytes_of g.F.RangeFilter.spelling g.F.RangeFilter.built_cutoff) c.args.version.now c.args.tables.now.tables c.args.memory.now.entries s _ _ c.requires.slot c.requires.rows c.requires.sound c.requires.epoch
    held (g.met.D.Disk.current c.args.disk.now tells) some (c.in_ok-made.ensures.stays s tells held)

pub returns-in_err-next-clause-done : goal.returns-in_err-next-clause-done
returns-in_err-next-clause-done g c s tells held some =
    passed_so c.from_residual-in_err-next.result _ _ _ c.from_residual-in_err-next.ensures.1
    (fails_wanting g.F.RangeFilter.spelling (filter_bytes_of g.F.RangeFilter.spelling g.F.RangeFilter.built_cutoff) c.args.version.now c.args.tables.now.tables c.args.memory.now.entries s _ _ c.requires.slot c.requires.rows c.requires.sound
    c.requires.epoch held (g.met.D.Disk.current c.args.disk.now tells) some (c.in_ok-made.ensures.stays s tells held))

pub returns-in_err-log-clause-meanwhile : goal.returns-in_err-log-clause-meanwhile
returns-in_err-log-clause-meanwhile g c s tells held some =
    let bytes = filter_bytes_of g.F.RangeFilter.spelling g.F.RangeFilter.built_cutoff in
    let m = c.args.version.now in
    let made = c.in_ok-all.all.tables in
    let all = subst (λ (ts : List Opened). AreAllMade g.F.RangeFilter.spelling bytes s ts (g.D.Disk.world c.write_all.new.disk)) (sym c.in_ok-all.ensures) (c.in_ok-made.ensures.made s tells held) in
    let compact = subst (λ (ts : List Opened). AreCompact m.version (rows_of ts)) (sym c.in_ok-all.ensures) c.in_ok-made.ensures.compact in
    let area_is : other_log_page m.version ≡ log_page_of c.next.inside.log_area = sym (ap (λ (n : Manifest). n.version.log_page) (c.next.view_is ∙ c.in_ok-next.ensures.next)) in
    log_failed g.F.RangeFilter.spelling bytes m c.args.tables.now.tables c.args.memory.now.entries s _ _ c.requires.slot c.requires.rows c.requires.sound c.requires.epoch held (g.met.D.Disk.current c.args.disk.now tells) some
    (c.in_ok-made.ensures.stays s tells held) made all compact c.in_ok-next.ensures.fits c.in_ok-next.ensures.range c.next.inside.log_area area_is _ c.start.ensures.moves c.start.result (c.start.ensures.stands tells)

pub returns-in_err-log-clause-done : goal.returns-in_err-log-clause-done
returns-in_err-log-clause-done g c s tells held some =
    let bytes = filter_bytes_of g.F.RangeFilter.spelling g.F.RangeFilter.built_cutoff in
    let m = c.args.version.now in
    let made = c.in_ok-all.all.tables in
    let a = g.D.Disk.world c.args.disk.now in
    let b = g.D.Disk.world c.write_all.new.disk in
    let d = g.D.Disk.world c.start.new.disk in
    let all = subst (λ (ts : List Opened). AreAllMade g.F.RangeFilter.spelling bytes s ts b) (sym c.in_ok-all.ensures) (c.in_ok-made.ensures.made s tells held) in
    let compact = subst (λ (ts : List Opened). AreCompact m.version (rows_of ts)) (sym c.in_ok-all.ensures) c.in_ok-made.ensures.compact in
    let area_is : other_log_page m.version ≡ log_page_of c.next.inside.log_area = sym (ap (λ (n : Manifest). n.version.log_page) (c.next.view_is ∙ c.in_ok-next.ensures.next)) in
    let rose = later_rose a.seen.write_faults b.seen.write_faults d.seen.write_faults c.write_all.ensures.moves.1.write_faults c.in_err-log.ensures.cause in
    passed_so c.from_residual-in_err-log.result _ _ _ c.from_residual-in_err-log.ensures.1
    (log_fails_so g.F.RangeFilter.spelling bytes m c.args.tables.now.tables c.args.memory.now.entries s a b c.requires.slot c.requires.rows c.requires.sound c.requires.epoch held (g.met.D.Disk.current c.args.disk.now tells) some
    (c.in_ok-made.ensures.stays s tells held) made all compact c.in_ok-next.ensures.fits c.in_ok-next.ensures.range c.next.inside.log_area area_is d c.start.ensures.moves c.in_err-log.field-0.0 (through_writes _ c.in_err-log.field-0.0 c.in_err-log.ensures.fault) rose)

pub returns-in_err-log-clause-moves : goal.returns-in_err-log-clause-moves
returns-in_err-log-clause-moves g c =
    let m = c.args.version.now in
    let area_is : other_log_page m.version ≡ log_page_of c.next.inside.log_area = sym (ap (λ (n : Manifest). n.version.log_page) (c.next.view_is ∙ c.in_ok-next.ensures.next)) in
    let small = (other_area_of m.version c.next.inside.log_area c.requires.sound area_is).3 in
    let pages = c.requires.sound.some_pages in
    moved_write _ _ 1 _ _ _ (omega (arith, small, pages)) c.write_all.ensures.moves c.start.ensures.moves

pub install-requires-clause-sound : goal.install-requires-clause-sound
install-requires-clause-sound g c =
    let m = c.args.version.now in
    let compact = subst (λ (ts : List Opened). AreCompact m.version (rows_of ts)) (sym c.in_ok-all.ensures) c.in_ok-made.ensures.compact in
    subst (λ (n : Manifest). IsVersion n.version) (sym c.in_ok-next.ensures.next) (compacted_is_version m (rows_of c.in_ok-all.all.tables) c.requires.sound compact c.in_ok-next.ensures.fits c.in_ok-next.ensures.range)

pub returns-in_err-install-clause-meanwhile : goal.returns-in_err-install-clause-meanwhile
returns-in_err-install-clause-meanwhile g c s tells held some =
    let bytes = filter_bytes_of g.F.RangeFilter.spelling g.F.RangeFilter.built_cutoff in
    let m = c.args.version.now in
    let v = m.version in
    let made = c.in_ok-all.all.tables in
    let a = g.D.Disk.world c.args.disk.now in
    let b = g.D.Disk.world c.write_all.new.disk in
    let d = g.D.Disk.world c.start.new.disk in
    let e = g.D.Disk.world c.install.new.disk in
    let all = subst (λ (ts : List Opened). AreAllMade g.F.RangeFilter.spelling bytes s ts b) (sym c.in_ok-all.ensures) (c.in_ok-made.ensures.made s tells held) in
    let compact = subst (λ (ts : List Opened). AreCompact m.version (rows_of ts)) (sym c.in_ok-all.ensures) c.in_ok-made.ensures.compact in
    let area_is : other_log_page m.version ≡ log_page_of c.next.inside.log_area = sym (ap (λ (n : Manifest). n.version.log_page) (c.next.view_is ∙ c.in_ok-next.ensures.next)) in
    let next_is = c.in_ok-next.ensures.next in
    let led = subst (λ (n : Manifest). Leads (StandsInSlot n.slot n.other_open v) (IsOldOrNew (install_of n v)) (IsInstalled (install_of n v)) c.install.result d e) next_is
    (c.install.ensures.crash v tells (sym (ap (λ (n : Manifest). n.version.epoch) next_is))) in
    let moves = subst (λ (n : Manifest). WriteMoves (other_place n.slot) 131072 d e) next_is c.install.ensures.moves in
    install_meanwhile g.F.RangeFilter.spelling bytes m c.args.tables.now.tables c.args.memory.now.entries s a b c.requires.slot c.requires.rows c.requires.sound c.requires.epoch held (g.met.D.Disk.current c.args.disk.now tells) some
    (c.in_ok-made.ensures.stays s tells held) made all compact c.in_ok-next.ensures.fits c.in_ok-next.ensures.range c.next.inside.log_area area_is d c.start.ensures.moves (c.in_ok-log.ensures.stands tells) e moves c.install.result led

pub returns-in_err-install-clause-done : goal.returns-in_err-install-clause-done
returns-in_err-install-clause-done g c s tells held some =
    let bytes = filter_bytes_of g.F.RangeFilter.spelling g.F.RangeFilter.built_cutoff in
    let m = c.args.version.now in
    let v = m.version in
    let made = c.in_ok-all.all.tables in
    let a = g.D.Disk.world c.args.disk.now in
    let b = g.D.Disk.world c.write_all.new.disk in
    let d = g.D.Disk.world c.start.new.disk in
    let e = g.D.Disk.world c.install.new.disk in
    let f = c.in_err-install.field-0.0 in
    let all = subst (λ (ts : List Opened). AreAllMade g.F.RangeFilter.spelling bytes s ts b) (sym c.in_ok-all.ensures) (c.in_ok-made.ensures.made s tells held) in
    let compact = subst (λ (ts : List Opened). AreCompact m.version (rows_of ts)) (sym c.in_ok-all.ensures) c.in_ok-made.ensures.compact in
    let area_is : other_log_page m.version ≡ log_page_of c.next.inside.log_area = sym (ap (λ (n : Manifest). n.version.log_page) (c.next.view_is ∙ c.in_ok-next.ensures.next)) in
    let next_is = c.in_ok-next.ensures.next in
    let same = ap (λ (n : Manifest). n.version.epoch) next_is in
    let below = c.requires.epoch in
    let moves = subst (λ (n : Manifest). WriteMoves (other_place n.slot) 131072 d e) next_is c.install.ensures.moves in
    let cause = subst (λ (n : Manifest). HasInstallCause (other_place n.slot) d e f) next_is c.in_err-install.ensures.cause in
    let started = c.start.ensures.moves.write_faults in
    let wrote = c.write_all.ensures.moves.1.write_faults in
    passed_so c.from_residual-in_err-install.result _ _ _ c.from_residual-in_err-install.ensures.1
    (install_fails_so g.F.RangeFilter.spelling bytes m c.args.tables.now.tables c.args.memory.now.entries s a b c.requires.slot c.requires.rows c.requires.sound c.requires.epoch held (g.met.D.Disk.current c.args.disk.now tells) some
    (c.in_ok-made.ensures.stays s tells held) made all compact c.in_ok-next.ensures.fits c.in_ok-next.ensures.range c.next.inside.log_area area_is d c.start.ensures.moves (c.in_ok-log.ensures.stands tells) e moves f cause
    (λ is. let last = c.in_err-install.ensures.limit.0 (ap (λ (x : ManifestFault). Err x) is) in absurd (omega (arith, last, same, below)))
    (later_rose a.seen.write_faults d.seen.write_faults e.seen.write_faults (omega (arith, started, wrote))))

pub returns-in_err-install-clause-moves : goal.returns-in_err-install-clause-moves
returns-in_err-install-clause-moves g c =
    let m = c.args.version.now in
    let area_is : other_log_page m.version ≡ log_page_of c.next.inside.log_area = sym (ap (λ (n : Manifest). n.version.log_page) (c.next.view_is ∙ c.in_ok-next.ensures.next)) in
    let small = (other_area_of m.version c.next.inside.log_area c.requires.sound area_is).3 in
    let pages = c.requires.sound.some_pages in
    moved_write _ _ 131072 _ _ _ (omega (arith, pages)) (moved_write _ _ 1 _ _ _ (omega (arith, small, pages)) c.write_all.ensures.moves c.start.ensures.moves) c.install.ensures.moves

pub returns-clause-meanwhile : goal.returns-clause-meanwhile
returns-clause-meanwhile g c s tells held some =
    let bytes = filter_bytes_of g.F.RangeFilter.spelling g.F.RangeFilter.built_cutoff in
    let m = c.args.version.now in
    let v = m.version in
    let made = c.in_ok-all.all.tables in
    let a = g.D.Disk.world c.args.disk.now in
    let b = g.D.Disk.world c.write_all.new.disk in
    let d = g.D.Disk.world c.start.new.disk in
    let e = g.D.Disk.world c.install.new.disk in
    let all = subst (λ (ts : List Opened). AreAllMade g.F.RangeFilter.spelling bytes s ts b) (sym c.in_ok-all.ensures) (c.in_ok-made.ensures.made s tells held) in
    let compact = subst (λ (ts : List Opened). AreCompact m.version (rows_of ts)) (sym c.in_ok-all.ensures) c.in_ok-made.ensures.compact in
    let area_is : other_log_page m.version ≡ log_page_of c.next.inside.log_area = sym (ap (λ (n : Manifest). n.version.log_page) (c.next.view_is ∙ c.in_ok-next.ensures.next)) in
    let next_is = c.in_ok-next.ensures.next in
    let led = subst (λ (n : Manifest). Leads (StandsInSlot n.slot n.other_open v) (IsOldOrNew (install_of n v)) (IsInstalled (install_of n v)) c.install.result d e) next_is
    (c.install.ensures.crash v tells (sym (ap (λ (n : Manifest). n.version.epoch) next_is))) in
    let moves = subst (λ (n : Manifest). WriteMoves (other_place n.slot) 131072 d e) next_is c.install.ensures.moves in
    install_meanwhile g.F.RangeFilter.spelling bytes m c.args.tables.now.tables c.args.memory.now.entries s a b c.requires.slot c.requires.rows c.requires.sound c.requires.epoch held (g.met.D.Disk.current c.args.disk.now tells) some
    (c.in_ok-made.ensures.stays s tells held) made all compact c.in_ok-next.ensures.fits c.in_ok-next.ensures.range c.next.inside.log_area area_is d c.start.ensures.moves (c.in_ok-log.ensures.stands tells) e moves c.install.result led

pub returns-clause-done : goal.returns-clause-done
returns-clause-done g c s tells held some =
    let spelling = g.F.RangeFilter.spelling in
    let bytes = filter_bytes_of g.F.RangeFilter.spelling g.F.RangeFilter.built_cutoff in
    let m = c.args.version.now in
    let v = m.version in
    let made = c.in_ok-all.all.tables in
    let a = g.D.Disk.world c.args.disk.now in
    let b = g.D.Disk.world c.write_all.new.disk in
    let d = g.D.Disk.world c.start.new.disk in
    let e = g.D.Disk.world c.install.new.disk in
    let all = subst (λ (ts : List Opened). AreAllMade spelling bytes s ts b) (sym c.in_ok-all.ensures) (c.in_ok-made.ensures.made s tells held) in
    let compact = subst (λ (ts : List Opened). AreCompact m.version (rows_of ts)) (sym c.in_ok-all.ensures) c.in_ok-made.ensures.compact in
    let area_is : other_log_page m.version ≡ log_page_of c.next.inside.log_area = sym (ap (λ (n : Manifest). n.version.log_page) (c.next.view_is ∙ c.in_ok-next.ensures.next)) in
    let next_is = c.in_ok-next.ensures.next in
    let led = subst (λ (n : Manifest). Leads {E = ManifestFault} (StandsInSlot n.slot n.other_open v) (IsOldOrNew (install_of n v)) (IsInstalled (install_of n v)) (Ok c.in_ok-install.field-0) d e) next_is
    (c.in_ok-install.ensures.crash v tells (sym (ap (λ (n : Manifest). n.version.epoch) next_is))) in
    let moves = subst (λ (n : Manifest). WriteMoves (other_place n.slot) 131072 d e) next_is c.install.ensures.moves in
    subst (λ (n : Manifest). StandAlone spelling bytes s n made e) (sym (c.installed.ensures ∙ ap installed_manifest next_is))
    (install_done spelling bytes m c.args.tables.now.tables c.args.memory.now.entries s a b c.requires.slot c.requires.rows c.requires.sound c.requires.epoch held (g.met.D.Disk.current c.args.disk.now tells) some
    (c.in_ok-made.ensures.stays s tells held) made all compact c.in_ok-next.ensures.fits c.in_ok-next.ensures.range c.next.inside.log_area area_is d c.start.ensures.moves (c.in_ok-log.ensures.stands tells) e moves c.in_ok-install.field-0 led)

pub returns-clause-whole : goal.returns-clause-whole
returns-clause-whole g c =
    let m = c.args.version.now in
    let compact = subst (λ (ts : List Opened). AreCompact m.version (rows_of ts)) (sym c.in_ok-all.ensures) c.in_ok-made.ensures.compact in
    let area_is : other_log_page m.version ≡ log_page_of c.next.inside.log_area = sym (ap (λ (n : Manifest). n.version.log_page) (c.next.view_is ∙ c.in_ok-next.ensures.next)) in
    let log_is = c.in_ok-log.ensures.log in
    installed_whole m c.installed.result c.in_ok-all.all.tables c.in_ok-log.log c.requires.sound compact c.in_ok-next.ensures.fits c.in_ok-next.ensures.range c.requires.epoch (c.installed.ensures ∙ ap installed_manifest c.in_ok-next.ensures.next)
    (area_is ∙ ap (λ (p : Position). log_page_of p.area) (sym log_is)) (ap (λ (p : Position). p.filled) log_is)

pub returns-clause-moves : goal.returns-clause-moves
returns-clause-moves g c =
    let m = c.args.version.now in
    let area_is : other_log_page m.version ≡ log_page_of c.next.inside.log_area = sym (ap (λ (n : Manifest). n.version.log_page) (c.next.view_is ∙ c.in_ok-next.ensures.next)) in
    let small = (other_area_of m.version c.next.inside.log_area c.requires.sound area_is).3 in
    let pages = c.requires.sound.some_pages in
    moved_write _ _ 131072 _ _ _ (omega (arith, pages)) (moved_write _ _ 1 _ _ _ (omega (arith, small, pages)) c.write_all.ensures.moves c.start.ensures.moves) c.install.ensures.moves

-- ---- what is left as it was

pub returns-in_err-made-clause-frame : goal.returns-in_err-made-clause-frame
returns-in_err-made-clause-frame g c = c.write_all.ensures.frame

pub returns-in_err-all-clause-frame : goal.returns-in_err-all-clause-frame
returns-in_err-all-clause-frame g c = c.write_all.ensures.frame

pub returns-in_err-next-clause-frame : goal.returns-in_err-next-clause-frame
returns-in_err-next-clause-frame g c = c.write_all.ensures.frame

pub returns-in_err-log-clause-frame : goal.returns-in_err-log-clause-frame
returns-in_err-log-clause-frame g c =
    let m = c.args.version.now in
    let a = g.D.Disk.world c.args.disk.now in
    let b = g.D.Disk.world c.write_all.new.disk in
    let d = g.D.Disk.world c.start.new.disk in
    let area_is : other_log_page m.version ≡ log_page_of c.next.inside.log_area = sym (ap (λ (n : Manifest). n.version.log_page) (c.next.view_is ∙ c.in_ok-next.ensures.next)) in
    let begun = leaves_then (IsInUse m 262144) a b d c.write_all.ensures.frame
    (leaves_write (IsInUse m 262144) (start_of c.next.inside.log_area) 1 b d (gate_outside m c.requires.sound c.requires.slot c.next.inside.log_area area_is) c.start.ensures.moves) in
    begun

pub returns-in_err-install-clause-frame : goal.returns-in_err-install-clause-frame
returns-in_err-install-clause-frame g c =
    let m = c.args.version.now in
    let a = g.D.Disk.world c.args.disk.now in
    let b = g.D.Disk.world c.write_all.new.disk in
    let d = g.D.Disk.world c.start.new.disk in
    let area_is : other_log_page m.version ≡ log_page_of c.next.inside.log_area = sym (ap (λ (n : Manifest). n.version.log_page) (c.next.view_is ∙ c.in_ok-next.ensures.next)) in
    let begun = leaves_then (IsInUse m 262144) a b d c.write_all.ensures.frame
    (leaves_write (IsInUse m 262144) (start_of c.next.inside.log_area) 1 b d (gate_outside m c.requires.sound c.requires.slot c.next.inside.log_area area_is) c.start.ensures.moves) in
    let e = g.D.Disk.world c.install.new.disk in
    let moves = subst (λ (n : Manifest). WriteMoves (other_place n.slot) 131072 d e) c.in_ok-next.ensures.next c.install.ensures.moves in
    leaves_then (IsInUse m 262144) a d e begun (leaves_write (IsInUse m 262144) (other_place m.slot) 131072 d e (slot_outside m c.requires.sound c.requires.slot 262144) moves)

pub returns-clause-frame : goal.returns-clause-frame
returns-clause-frame g c =
    let m = c.args.version.now in
    let a = g.D.Disk.world c.args.disk.now in
    let b = g.D.Disk.world c.write_all.new.disk in
    let d = g.D.Disk.world c.start.new.disk in
    let area_is : other_log_page m.version ≡ log_page_of c.next.inside.log_area = sym (ap (λ (n : Manifest). n.version.log_page) (c.next.view_is ∙ c.in_ok-next.ensures.next)) in
    let begun = leaves_then (IsInUse m 262144) a b d c.write_all.ensures.frame
    (leaves_write (IsInUse m 262144) (start_of c.next.inside.log_area) 1 b d (gate_outside m c.requires.sound c.requires.slot c.next.inside.log_area area_is) c.start.ensures.moves) in
    let e = g.D.Disk.world c.install.new.disk in
    let moves = subst (λ (n : Manifest). WriteMoves (other_place n.slot) 131072 d e) c.in_ok-next.ensures.next c.install.ensures.moves in
    leaves_then (IsInUse m 262144) a d e begun (leaves_write (IsInUse m 262144) (other_place m.slot) 131072 d e (slot_outside m c.requires.sound c.requires.slot 262144) moves)
