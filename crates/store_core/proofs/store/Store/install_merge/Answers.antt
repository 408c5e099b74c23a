use Rattle.std.proofs.Common.{◌∙◌, ◌<◌, ◌≤◌, List, length, refl, sym, ap, subst, arith}
use Rattle.std.specs.Prelude.{Option, Some, Ok, Err}
use Rattle.std.specs.List.{AllByRecursion}
use Rattle.disk_trait.specs.World.{Leads, WriteMoves}
use Rattle.extent_model.proofs.Lists.{pairs_of}
use Rattle.key_base.specs.Limits.{last_epoch}
use Rattle.level_merge.specs.JobValue.{JobValue}
use Rattle.manifest.proofs.Steps.{raised_is}
use Rattle.manifest.specs.Causes.{HasInstallCause}
use Rattle.filter_api.specs.Ranges.{IsRowInRange}
use Rattle.manifest.specs.Manifest.{Manifest, StandsInSlot, install_of, other_place}
use Rattle.manifest.specs.declared.fault.ManifestFault.{ManifestFault}
use Rattle.manifest.specs.declared.fault.ManifestFault.TheVariants as fault
use Rattle.manifest_model.specs.Installs.{IsInstalled, IsOldOrNew}
use Rattle.manifest_model.specs.Laws.{IsVersion, RowFits}
use Rattle.merge_rows.proofs.Begins.{numbers_known}
use Rattle.merge_rows.specs.Steps.{numbers}
use Rattle.table_file.specs.Opened.{Opened}
use Rattle.table_model.specs.Tables.{filter_bytes_of}
use Rattle.store_search.specs.Caching.{AreNumbered, Cached, renumbered}
use Rattle.store_core.specs.Flushing.{installed_manifest}
use Rattle.store_core.specs.Framing.{IsInUse}
use Rattle.store_core.proofs.Framing.{leaves_none, leaves_write, slot_outside}
use Rattle.store_core.specs.StoreValue.{IsConsistent, StoreValue, rows_of}
use Rattle.store_core.specs.Install.{merged_manifest, tables_behind}
use Rattle.store_core.specs.Running.{IsRun, MayRunIn}
use Rattle.store_core.proofs.Agreed.{tied_agree}
use Rattle.store_search.proofs.Caches.{numbered_anew}
use Rattle.store_core.proofs.InstallLists.{others_few}
use Rattle.store_core.proofs.InstallMerges.{install_done, install_refused, wanted}
use Rattle.store_core.proofs.InstallRefusals.{below_last, install_is_refused, moves_within, no_fault, one_fault, room_for}
use Rattle.store_core.proofs.MergedVersions.{made_few, merged_is_version}
use Rattle.store_core.proofs.Stays.{stays_at, stopped_or_stays, tables_stay}
use Rattle.store_core.proofs.Wholes.{whole_stopped}
use Rattle.store_core.proofs.store.Store.install_merge.Goals as goal

pub merged_version-requires-clause-few_made : goal.merged_version-requires-clause-few_made
merged_version-requires-clause-few_made g c =
    let run = subst (λ (k : StoreValue). IsRun k.manifest.version k.tables c.args.job) (sym c.self.view_is) c.requires.run in
    let few = made_few c.self.inside.version c.self.inside.tables.tables c.args.job c.self.invariant.0.version c.self.invariant.0.rows run in
    omega (arith, few)

pub returns-in_err-next-clause-installs : goal.returns-in_err-next-clause-installs
returns-in_err-next-clause-installs g c s done tells runs is_done tied =
    let spelling = g.F.RangeFilter.spelling in
    let bytes = filter_bytes_of spelling g.F.RangeFilter.built_cutoff in
    let whole = subst IsConsistent c.self.view_is c.self.invariant.0 in
    wanted c.standing_tables_agree.ensures spelling bytes c.args.self.now c.args.job s done (g.D.Disk.world c.args.disk.now) whole.slot whole.area whole.version c.requires.run runs is_done tied
    c.from_residual.result c.args.self.now c.from_residual.ensures.1 refl refl c.requires.taken_out refl refl refl

pub returns-in_err-reserve-clause-installs : goal.returns-in_err-reserve-clause-installs
returns-in_err-reserve-clause-installs g c s done tells runs is_done tied =
    let spelling = g.F.RangeFilter.spelling in
    let bytes = filter_bytes_of spelling g.F.RangeFilter.built_cutoff in
    let whole = subst IsConsistent c.self.view_is c.self.invariant.0 in
    wanted c.standing_tables_agree.ensures spelling bytes c.args.self.now c.args.job s done (g.D.Disk.world c.args.disk.now) whole.slot whole.area whole.version c.requires.run runs is_done tied
    c.from_residual-in_err-reserve.result _ c.from_residual-in_err-reserve.ensures.1 (ap (λ (k : StoreValue). k.manifest) c.self.view_is) (c.reserve.ensures.tables ∙ ap (λ (k : StoreValue). k.tables) c.self.view_is)
    (ap (λ (k : StoreValue). k.job) c.self.view_is ∙ c.requires.taken_out) (ap (λ (k : StoreValue). k.log) c.self.view_is) (ap (λ (k : StoreValue). k.memory) c.self.view_is) (ap (λ (k : StoreValue). k.blocks) c.self.view_is)

pub install-requires-clause-sound : goal.install-requires-clause-sound
install-requires-clause-sound g c =
    let run = subst (λ (k : StoreValue). IsRun k.manifest.version k.tables c.args.job) (sym c.self.view_is) c.requires.run in
    subst (λ (m : Manifest). IsVersion m.version) (sym c.in_ok-next.ensures.next)
    (merged_is_version c.self.inside.version c.self.inside.tables.tables c.args.job c.self.invariant.0.version c.self.invariant.0.rows run
    (subst (λ (m : Manifest). AllByRecursion RowFits m.version.rows) c.in_ok-next.ensures.next c.in_ok-next.ensures.fits)
    (subst (λ (m : Manifest). AllByRecursion IsRowInRange m.version.rows) c.in_ok-next.ensures.next c.in_ok-next.ensures.range))

pub replace_tables-requires-clause-room : goal.replace_tables-requires-clause-room
replace_tables-requires-clause-room g c =
    let which = numbers c.args.job.merge.walks in
    let tables = c.self.inside.tables.tables in
    let run = subst (λ (k : StoreValue). IsRun k.manifest.version k.tables c.args.job) (sym c.self.view_is) c.requires.run in
    room_for which tables c.reserve.new.self.tables (length c.args.job.made) (length c.tables.result.now) c.reserve.new.self.room c.reserve.ensures.tables (others_few which tables (pairs_of _ which run.apart) (numbers_known _ _ run.numbers)) (ap length c.tables.ensures) c.in_ok-reserve.ensures.room

pub installed-requires-clause-epoch : goal.installed-requires-clause-epoch
installed-requires-clause-epoch g c =
    let run_in = subst (λ (k : StoreValue). IsRun k.manifest.version k.tables c.args.job) (sym c.self.view_is) c.requires.run in
    let sound : IsVersion c.in_ok-next.next.version = subst (λ (m : Manifest). IsVersion m.version) (sym c.in_ok-next.ensures.next)
    (merged_is_version c.self.inside.version c.self.inside.tables.tables c.args.job c.self.invariant.0.version c.self.invariant.0.rows run_in
    (subst (λ (m : Manifest). AllByRecursion RowFits m.version.rows) c.in_ok-next.ensures.next c.in_ok-next.ensures.fits)
    (subst (λ (m : Manifest). AllByRecursion IsRowInRange m.version.rows) c.in_ok-next.ensures.next c.in_ok-next.ensures.range)) in
    below_last c.in_ok-next.next.version.epoch sound.epoch (λ last. no_fault _ _ (c.in-Ok.ensures.limit.1 last))

pub invariant_of-self-in-Err-1 : goal.invariant_of-self-in-Err-1
invariant_of-self-in-Err-1 g c = (whole_stopped _ _ _ c.reserve.ensures.tables c.self.invariant.0, c.self.invariant.1, c.self.invariant.2)

pub invariant_of-self-in-Ok : goal.invariant_of-self-in-Ok
invariant_of-self-in-Ok g c =
    let run_in = subst (λ (k : StoreValue). IsRun k.manifest.version k.tables c.args.job) (sym c.self.view_is) c.requires.run in
    let sound : IsVersion c.in_ok-next.next.version = subst (λ (m : Manifest). IsVersion m.version) (sym c.in_ok-next.ensures.next)
    (merged_is_version c.self.inside.version c.self.inside.tables.tables c.args.job c.self.invariant.0.version c.self.invariant.0.rows run_in
    (subst (λ (m : Manifest). AllByRecursion RowFits m.version.rows) c.in_ok-next.ensures.next c.in_ok-next.ensures.fits)
    (subst (λ (m : Manifest). AllByRecursion IsRowInRange m.version.rows) c.in_ok-next.ensures.next c.in_ok-next.ensures.range)) in
    let left : c.in_ok-next.next.version.epoch < last_epoch = below_last c.in_ok-next.next.version.epoch sound.epoch (λ last. no_fault _ _ (c.in-Ok.ensures.limit.1 last)) in
    let whole = c.self.invariant.0 in
    let tables_are = c.replace_tables.ensures.tables ∙ ap (λ (ts : List Opened). tables_behind ts c.args.job) c.reserve.ensures.tables in
    let none = ap (λ (k : StoreValue). k.job) c.self.view_is ∙ c.requires.taken_out in (
      record {
        version = subst (λ (m : Manifest). IsVersion m.version) (sym c.installed.ensures) (raised_is c.in_ok-next.next.version sound (λ last. absurd (omega (arith, last, left))));
        slot = subst (λ (m : Manifest). m.slot ≤ 1) (sym c.installed.ensures) (omega arith);
        rows = ap rows_of tables_are ∙ sym (ap (λ (m : Manifest). m.version.rows) c.installed.ensures ∙ ap (λ (m : Manifest). m.version.rows) c.in_ok-next.ensures.next);
        area = ap (λ (m : Manifest). m.version.log_page) c.installed.ensures ∙ ap (λ (m : Manifest). m.version.log_page) c.in_ok-next.ensures.next ∙ whole.area;
        changes = whole.changes;
        job = subst (λ (running : Option JobValue). MayRunIn c.installed.result.version c.replace_tables.new.tables.tables running) (sym none) tt;
        numbered = subst (λ (b : Cached). AreNumbered b (length c.replace_tables.new.tables.tables)) (sym (c.replace_tables.ensures.blocks ∙ ap (λ (ts : List Opened). renumbered c.self.inside.blocks (length ts)) c.reserve.ensures.tables))
            (numbered_anew c.self.inside.blocks (length c.self.inside.tables.tables) (length c.replace_tables.new.tables.tables) whole.numbered);
      },
      c.self.invariant.1,
      tt,
    )

pub returns-in-Ok-clause-installs : goal.returns-in-Ok-clause-installs
returns-in-Ok-clause-installs g c s done tells runs is_done tied =
    let run_in = subst (λ (k : StoreValue). IsRun k.manifest.version k.tables c.args.job) (sym c.self.view_is) c.requires.run in
    let sound : IsVersion c.in_ok-next.next.version = subst (λ (m : Manifest). IsVersion m.version) (sym c.in_ok-next.ensures.next)
    (merged_is_version c.self.inside.version c.self.inside.tables.tables c.args.job c.self.invariant.0.version c.self.invariant.0.rows run_in
    (subst (λ (m : Manifest). AllByRecursion RowFits m.version.rows) c.in_ok-next.ensures.next c.in_ok-next.ensures.fits)
    (subst (λ (m : Manifest). AllByRecursion IsRowInRange m.version.rows) c.in_ok-next.ensures.next c.in_ok-next.ensures.range)) in
    let left : c.in_ok-next.next.version.epoch < last_epoch = below_last c.in_ok-next.next.version.epoch sound.epoch (λ last. no_fault _ _ (c.in-Ok.ensures.limit.1 last)) in
    let spelling = g.F.RangeFilter.spelling in
    let bytes = filter_bytes_of spelling g.F.RangeFilter.built_cutoff in
    let store = c.args.self.now in
    let v = store.manifest.version in
    let job = c.args.job in
    let a = g.D.Disk.world c.args.disk.now in
    let b = g.D.Disk.world c.install.new.disk in
    let whole = subst IsConsistent c.self.view_is c.self.invariant.0 in
    let next_is = c.in_ok-next.ensures.next ∙ ap (λ (k : StoreValue). merged_manifest k.manifest (rows_of (tables_behind k.tables job))) c.self.view_is in
    let agrees = tied_agree spelling bytes (record store { job = Some job }) s a (g.met.D.Disk.current c.args.disk.now tells) tied in
    let tables_are = c.replace_tables.ensures.tables ∙ ap (λ (ts : List Opened). tables_behind ts job) c.reserve.ensures.tables in
    install_done c.standing_tables_agree.ensures spelling bytes store job s done a whole.slot whole.area whole.version c.requires.run runs is_done tied b
    (subst (λ (m : Manifest). IsVersion m.version) next_is sound) agrees.epoch (subst (λ (m : Manifest). WriteMoves (other_place m.slot) 131072 a b) next_is c.install.ensures.moves)
    c.in-Ok.field-0 _ _ (subst (λ (m : Manifest). m.version.epoch < last_epoch) next_is left)
    (subst (λ (m : Manifest). Leads {T = Unit {0}} {E = ManifestFault} (StandsInSlot m.slot m.other_open v) (IsOldOrNew (install_of m v)) (IsInstalled (install_of m v)) (Ok c.in-Ok.field-0) a b) next_is
    (c.in-Ok.ensures.crash v tells (sym (ap (λ (m : Manifest). m.version.epoch) next_is))))
    (c.installed.ensures ∙ ap installed_manifest next_is) (tables_are ∙ ap (λ (k : StoreValue). tables_behind k.tables job) c.self.view_is) (ap (λ (k : StoreValue). k.job) c.self.view_is ∙ c.requires.taken_out)
    (ap (λ (k : StoreValue). k.log) c.self.view_is) (ap (λ (k : StoreValue). k.memory) c.self.view_is) whole.numbered
    (c.replace_tables.ensures.blocks ∙ ap (λ (ts : List Opened). renumbered c.self.inside.blocks (length ts)) c.reserve.ensures.tables ∙ ap (λ (k : StoreValue). renumbered k.blocks (length k.tables)) c.self.view_is)

pub returns-in-Ok-clause-moves : goal.returns-in-Ok-clause-moves
returns-in-Ok-clause-moves g c =
    let whole = subst IsConsistent c.self.view_is c.self.invariant.0 in
    let next_is = c.in_ok-next.ensures.next ∙ ap (λ (k : StoreValue). merged_manifest k.manifest (rows_of (tables_behind k.tables c.args.job))) c.self.view_is in
    let a = g.D.Disk.world c.args.disk.now in
    let b = g.D.Disk.world c.install.new.disk in
    moves_within c.args.self.now.manifest a b whole.slot whole.version (subst (λ (m : Manifest). WriteMoves (other_place m.slot) 131072 a b) next_is c.install.ensures.moves)

pub returns-in-Err-clause-moves : goal.returns-in-Err-clause-moves
returns-in-Err-clause-moves g c =
    let whole = subst IsConsistent c.self.view_is c.self.invariant.0 in
    let next_is = c.in_ok-next.ensures.next ∙ ap (λ (k : StoreValue). merged_manifest k.manifest (rows_of (tables_behind k.tables c.args.job))) c.self.view_is in
    let a = g.D.Disk.world c.args.disk.now in
    let b = g.D.Disk.world c.install.new.disk in
    moves_within c.args.self.now.manifest a b whole.slot whole.version (subst (λ (m : Manifest). WriteMoves (other_place m.slot) 131072 a b) next_is c.install.ensures.moves)

pub returns-in-Err-clause-refused : goal.returns-in-Err-clause-refused
returns-in-Err-clause-refused g c =
    let run_in = subst (λ (k : StoreValue). IsRun k.manifest.version k.tables c.args.job) (sym c.self.view_is) c.requires.run in
    let sound : IsVersion c.in_ok-next.next.version = subst (λ (m : Manifest). IsVersion m.version) (sym c.in_ok-next.ensures.next)
    (merged_is_version c.self.inside.version c.self.inside.tables.tables c.args.job c.self.invariant.0.version c.self.invariant.0.rows run_in
    (subst (λ (m : Manifest). AllByRecursion RowFits m.version.rows) c.in_ok-next.ensures.next c.in_ok-next.ensures.fits)
    (subst (λ (m : Manifest). AllByRecursion IsRowInRange m.version.rows) c.in_ok-next.ensures.next c.in_ok-next.ensures.range)) in
    let a = g.D.Disk.world c.args.disk.now in
    let b = g.D.Disk.world c.install.new.disk in
    let next_is = c.in_ok-next.ensures.next ∙ ap (λ (k : StoreValue). merged_manifest k.manifest (rows_of (tables_behind k.tables c.args.job))) c.self.view_is in
    let same = ap (λ (m : Manifest). m.version.epoch) next_is in
    install_is_refused c.args.self.now.manifest.version (other_place c.in_ok-next.next.slot) a b c.in-Err.fault c.from-why.result c.from-why.ensures c.in-Err.ensures.cause
    (λ is. sym same ∙ c.in-Err.ensures.limit.0 (ap Err is))
    (λ other. subst (λ (m : Manifest). m.version.epoch < last_epoch) next_is
    (below_last c.in_ok-next.next.version.epoch sound.epoch (λ last. other (one_fault _ c.in-Err.fault fault.Epoch refl (c.in-Err.ensures.limit.1 last)))))

pub returns-in-Err-clause-installs : goal.returns-in-Err-clause-installs
returns-in-Err-clause-installs g c s done tells runs is_done tied =
    let run_in = subst (λ (k : StoreValue). IsRun k.manifest.version k.tables c.args.job) (sym c.self.view_is) c.requires.run in
    let sound : IsVersion c.in_ok-next.next.version = subst (λ (m : Manifest). IsVersion m.version) (sym c.in_ok-next.ensures.next)
    (merged_is_version c.self.inside.version c.self.inside.tables.tables c.args.job c.self.invariant.0.version c.self.invariant.0.rows run_in
    (subst (λ (m : Manifest). AllByRecursion RowFits m.version.rows) c.in_ok-next.ensures.next c.in_ok-next.ensures.fits)
    (subst (λ (m : Manifest). AllByRecursion IsRowInRange m.version.rows) c.in_ok-next.ensures.next c.in_ok-next.ensures.range)) in
    let spelling = g.F.RangeFilter.spelling in
    let bytes = filter_bytes_of spelling g.F.RangeFilter.built_cutoff in
    let store = c.args.self.now in
    let v = store.manifest.version in
    let job = c.args.job in
    let a = g.D.Disk.world c.args.disk.now in
    let b = g.D.Disk.world c.install.new.disk in
    let whole = subst IsConsistent c.self.view_is c.self.invariant.0 in
    let next_is = c.in_ok-next.ensures.next ∙ ap (λ (k : StoreValue). merged_manifest k.manifest (rows_of (tables_behind k.tables job))) c.self.view_is in
    let agrees = tied_agree spelling bytes (record store { job = Some job }) s a (g.met.D.Disk.current c.args.disk.now tells) tied in
    install_refused c.standing_tables_agree.ensures spelling bytes store job s done a whole.slot whole.area whole.version c.requires.run runs is_done tied b
    (subst (λ (m : Manifest). IsVersion m.version) next_is sound) agrees.epoch (subst (λ (m : Manifest). WriteMoves (other_place m.slot) 131072 a b) next_is c.install.ensures.moves)
    c.in-Err.fault c.from-why.result _ c.from-why.ensures (subst (λ (m : Manifest). HasInstallCause (other_place m.slot) a b c.in-Err.fault) next_is c.in-Err.ensures.cause)
    (λ is. c.in-Err.ensures.unwritten (c.in-Err.ensures.limit.0 (ap Err is)))
    (λ other. subst (λ (m : Manifest). m.version.epoch < last_epoch) next_is
    (below_last c.in_ok-next.next.version.epoch sound.epoch (λ last. other (one_fault _ c.in-Err.fault fault.Epoch refl (c.in-Err.ensures.limit.1 last)))))
    (subst (λ (m : Manifest). Leads {T = Unit {0}} {E = ManifestFault} (StandsInSlot m.slot m.other_open v) (IsOldOrNew (install_of m v)) (IsInstalled (install_of m v)) (Err c.in-Err.fault) a b) next_is
    (c.in-Err.ensures.crash v tells (sym (ap (λ (m : Manifest). m.version.epoch) next_is))))
    (ap (λ (k : StoreValue). k.manifest) c.self.view_is) (c.reserve.ensures.tables ∙ ap (λ (k : StoreValue). k.tables) c.self.view_is) (ap (λ (k : StoreValue). k.job) c.self.view_is ∙ c.requires.taken_out)
    (ap (λ (k : StoreValue). k.log) c.self.view_is) (ap (λ (k : StoreValue). k.memory) c.self.view_is) (ap (λ (k : StoreValue). k.blocks) c.self.view_is) c.stops_store-self-inside.ensures

-- what is installed
pub returns-in-Ok-clause-installed : goal.returns-in-Ok-clause-installed
returns-in-Ok-clause-installed g c =
    let job = c.args.job in
    let next_is = c.in_ok-next.ensures.next ∙ ap (λ (k : StoreValue). merged_manifest k.manifest (rows_of (tables_behind k.tables job))) c.self.view_is in
    let tables_are = c.replace_tables.ensures.tables ∙ ap (λ (ts : List Opened). tables_behind ts job) c.reserve.ensures.tables ∙ ap (λ (k : StoreValue). tables_behind k.tables job) c.self.view_is in
    let version_is = c.installed.ensures ∙ ap installed_manifest next_is in
    record {
      written = c.requires.run.written;
      tables = tables_are;
      rows = ap (λ (m : Manifest). m.version.rows) version_is ∙ ap rows_of (sym tables_are);
      no_job = ap (λ (k : StoreValue). k.job) c.self.view_is ∙ c.requires.taken_out;
      epoch = ap (λ (m : Manifest). m.version.epoch) version_is;
    }

-- ---- what a refusal leaves

pub returns-in_err-next-clause-stays : goal.returns-in_err-next-clause-stays
returns-in_err-next-clause-stays g c = stays_at c.from_residual.result c.args.self.now c.args.self.now refl

pub returns-in_err-reserve-clause-stays : goal.returns-in_err-reserve-clause-stays
returns-in_err-reserve-clause-stays g c =
    tables_stay c.from_residual-in_err-reserve.result _ c.args.self.now c.reserve.new.self.tables c.self.view_is c.reserve.ensures.tables

pub returns-in-Err-clause-stays : goal.returns-in-Err-clause-stays
returns-in-Err-clause-stays g c runs =
    stopped_or_stays c.from-why.result _ c.args.self.now _ c.reserve.new.self.tables c.self.view_is c.requires.running c.reserve.ensures.tables c.stops_store-self-inside.ensures runs

-- ---- what is left as it was

pub returns-in_err-next-clause-frame : goal.returns-in_err-next-clause-frame
returns-in_err-next-clause-frame g c = leaves_none (IsInUse c.args.self.now.manifest 262144) (g.D.Disk.world c.args.disk.now)

pub returns-in_err-reserve-clause-frame : goal.returns-in_err-reserve-clause-frame
returns-in_err-reserve-clause-frame g c = leaves_none (IsInUse c.args.self.now.manifest 262144) (g.D.Disk.world c.args.disk.now)

pub returns-in-Ok-clause-frame : goal.returns-in-Ok-clause-frame
returns-in-Ok-clause-frame g c =
    let whole = subst IsConsistent c.self.view_is c.self.invariant.0 in
    let next_is = c.in_ok-next.ensures.next ∙ ap (λ (k : StoreValue). merged_manifest k.manifest (rows_of (tables_behind k.tables c.args.job))) c.self.view_is in
    let m = c.args.self.now.manifest in
    let a = g.D.Disk.world c.args.disk.now in
    let b = g.D.Disk.world c.install.new.disk in
    leaves_write (IsInUse m 262144) (other_place m.slot) 131072 a b (slot_outside m whole.version whole.slot 262144) (subst (λ (n : Manifest). WriteMoves (other_place n.slot) 131072 a b) next_is c.install.ensures.moves)

pub returns-in-Err-clause-frame : goal.returns-in-Err-clause-frame
returns-in-Err-clause-frame g c =
    let whole = subst IsConsistent c.self.view_is c.self.invariant.0 in
    let next_is = c.in_ok-next.ensures.next ∙ ap (λ (k : StoreValue). merged_manifest k.manifest (rows_of (tables_behind k.tables c.args.job))) c.self.view_is in
    let m = c.args.self.now.manifest in
    let a = g.D.Disk.world c.args.disk.now in
    let b = g.D.Disk.world c.install.new.disk in
    leaves_write (IsInUse m 262144) (other_place m.slot) 131072 a b (slot_outside m whole.version whole.slot 262144) (subst (λ (n : Manifest). WriteMoves (other_place n.slot) 131072 a b) next_is c.install.ensures.moves)
