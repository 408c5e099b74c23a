use Rattle.std.proofs.Common.{◌∙◌, ◌<◌, ◌≤◌, refl, sym, ap, subst, arith}
use Rattle.std.specs.Prelude.{Result, Ok, Err}
use Rattle.disk_trait.proofs.Calls.{reads_none}
use Rattle.disk_trait.specs.World.{Leads, WriteMoves}
use Rattle.image_model.specs.Installs.{with_numbers}
use Rattle.key_base.specs.Limits.{last_epoch}
use Rattle.manifest.proofs.Steps.{raised_is}
use Rattle.manifest.specs.Causes.{HasInstallCause}
use Rattle.manifest.specs.Manifest.{Manifest, StandsInSlot, install_of, other_place}
use Rattle.manifest.specs.declared.fault.ManifestFault.{ManifestFault}
use Rattle.manifest.specs.declared.fault.ManifestFault.TheVariants as fault
use Rattle.manifest_model.specs.Installs.{IsInstalled, IsOldOrNew}
use Rattle.manifest_model.specs.Laws.{IsVersion}
use Rattle.state_model.specs.Resets.{with_settings}
use Rattle.table_model.specs.Tables.{filter_bytes_of}
use Rattle.store_core.specs.Flushing.{installed_manifest}
use Rattle.store_core.specs.Resetting.{Resets}
use Rattle.store_core.specs.StoreValue.{IsConsistent, StoreValue}
use Rattle.store_core.specs.declared.error.StoreError.{StoreError}
use Rattle.store_core.specs.declared.error.StoreError.TheVariants as error
use Rattle.store_core.proofs.Agreed.{tied_agree}
use Rattle.store_core.proofs.FlushAnswers.{passed_on}
use Rattle.store_core.proofs.InstallRefusals.{below_last, no_fault, one_fault}
use Rattle.store_core.proofs.Resets.{not_reset, reset_done, reset_is_refused, reset_kept, reset_refused}
use Rattle.store_core.proofs.store.Store.install_numbers.Goals as goal

pub returns-in_err-next-clause-resets : goal.returns-in_err-next-clause-resets
returns-in_err-next-clause-resets g c s tells tied =
    let spelling = g.F.RangeFilter.spelling in
    let bytes = filter_bytes_of spelling g.F.RangeFilter.built_cutoff in
    let a = g.D.Disk.world c.args.disk.now in
    let store = c.args.self.now in
    let whole = subst IsConsistent c.self.view_is c.self.invariant.0 in
    let change = with_settings c.args.settings (record s { pages = c.args.pages }) in
    subst (λ (r : Result (Unit {0}) StoreError). Resets spelling bytes s change r store a a) (passed_on c.from_residual.result error.Memory c.from_residual.ensures.1)
    (not_reset spelling bytes store s a whole.slot tied change error.Memory store a (reads_none 0 a) refl)

pub installed-requires-clause-epoch : goal.installed-requires-clause-epoch
installed-requires-clause-epoch g c =
    below_last c.in_ok-next.next.version.epoch c.in_ok-next.ensures.sound.epoch (λ last. no_fault _ _ (c.in-Ok.ensures.limit.1 last))

pub invariant_of-self : goal.invariant_of-self
invariant_of-self g c =
    let whole = c.self.invariant.0 in
    let left : c.in_ok-next.next.version.epoch < last_epoch = below_last c.in_ok-next.next.version.epoch c.in_ok-next.ensures.sound.epoch (λ last. no_fault _ _ (c.in-Ok.ensures.limit.1 last)) in (
      record {
        version = subst (λ (m : Manifest). IsVersion m.version) (sym c.installed.ensures) (raised_is c.in_ok-next.next.version c.in_ok-next.ensures.sound (λ last. absurd (omega (arith, last, left))));
        slot = subst (λ (m : Manifest). m.slot ≤ 1) (sym c.installed.ensures) (omega arith);
        rows = whole.rows ∙ sym (ap (λ (m : Manifest). m.version.rows) c.installed.ensures ∙ ap (λ (m : Manifest). m.version.rows) c.in_ok-next.ensures.next);
        area = ap (λ (m : Manifest). m.version.log_page) c.installed.ensures ∙ ap (λ (m : Manifest). m.version.log_page) c.in_ok-next.ensures.next ∙ whole.area;
        changes = whole.changes;
        job = tt;
        numbered = whole.numbered;
      },
      c.self.invariant.1,
      tt,
    )

pub returns-in-Ok-clause-resets : goal.returns-in-Ok-clause-resets
returns-in-Ok-clause-resets g c s tells tied =
    let spelling = g.F.RangeFilter.spelling in
    let bytes = filter_bytes_of spelling g.F.RangeFilter.built_cutoff in
    let store = c.args.self.now in
    let v = store.manifest.version in
    let a = g.D.Disk.world c.args.disk.now in
    let b = g.D.Disk.world c.install.new.disk in
    let whole = subst IsConsistent c.self.view_is c.self.invariant.0 in
    let next_is = c.in_ok-next.ensures.next ∙ ap (λ (k : StoreValue). record k.manifest { version = with_numbers c.args.settings c.args.pages k.manifest.version.epoch k.manifest.version }) c.self.view_is in
    let left : c.in_ok-next.next.version.epoch < last_epoch = below_last c.in_ok-next.next.version.epoch c.in_ok-next.ensures.sound.epoch (λ last. no_fault _ _ (c.in-Ok.ensures.limit.1 last)) in
    let agrees = tied_agree spelling bytes store s a (g.met.D.Disk.current c.args.disk.now tells) tied in
    reset_done spelling bytes store s a whole.slot tied c.args.settings c.args.pages b whole.version (subst (λ (m : Manifest). IsVersion m.version) next_is c.in_ok-next.ensures.sound) whole.rows c.requires.settings
    c.requires.ratio (omega (arith, agrees.pages, c.requires.more)) c.requires.most agrees.epoch (subst (λ (m : Manifest). WriteMoves (other_place m.slot) 131072 a b) next_is c.install.ensures.moves)
    c.in-Ok.field-0 _ _ (subst (λ (m : Manifest). m.version.epoch < last_epoch) next_is left)
    (subst (λ (m : Manifest). Leads {T = Unit {0}} {E = ManifestFault} (StandsInSlot m.slot m.other_open v) (IsOldOrNew (install_of m v)) (IsInstalled (install_of m v)) (Ok c.in-Ok.field-0) a b) next_is
    (c.in-Ok.ensures.crash v tells (sym (ap (λ (m : Manifest). m.version.epoch) next_is))))
    (reset_kept _ store c.args.settings c.args.pages c.installed.result c.self.view_is (c.installed.ensures ∙ ap installed_manifest c.in_ok-next.ensures.next))

pub returns-in-Ok-clause-refused : goal.returns-in-Ok-clause-refused
returns-in-Ok-clause-refused g c =
    let next_is = c.in_ok-next.ensures.next ∙ ap (λ (k : StoreValue). record k.manifest { version = with_numbers c.args.settings c.args.pages k.manifest.version.epoch k.manifest.version }) c.self.view_is in
    let left : c.in_ok-next.next.version.epoch < last_epoch = below_last c.in_ok-next.next.version.epoch c.in_ok-next.ensures.sound.epoch (λ last. no_fault _ _ (c.in-Ok.ensures.limit.1 last)) in
    record { running = refl; in_range = refl; left = subst (λ (m : Manifest). m.version.epoch < last_epoch) next_is left }

pub returns-in-Ok-clause-store : goal.returns-in-Ok-clause-store
returns-in-Ok-clause-store g c =
    reset_kept _ c.args.self.now c.args.settings c.args.pages c.installed.result c.self.view_is (c.installed.ensures ∙ ap installed_manifest c.in_ok-next.ensures.next)

pub returns-in-Ok-clause-moves : goal.returns-in-Ok-clause-moves
returns-in-Ok-clause-moves g c =
    let next_is = c.in_ok-next.ensures.next ∙ ap (λ (k : StoreValue). record k.manifest { version = with_numbers c.args.settings c.args.pages k.manifest.version.epoch k.manifest.version }) c.self.view_is in
    subst (λ (m : Manifest). WriteMoves (other_place m.slot) 131072 (g.D.Disk.world c.args.disk.now) (g.D.Disk.world c.install.new.disk)) next_is c.install.ensures.moves

pub returns-in-Err-clause-resets : goal.returns-in-Err-clause-resets
returns-in-Err-clause-resets g c s tells tied =
    let spelling = g.F.RangeFilter.spelling in
    let bytes = filter_bytes_of spelling g.F.RangeFilter.built_cutoff in
    let store = c.args.self.now in
    let v = store.manifest.version in
    let a = g.D.Disk.world c.args.disk.now in
    let b = g.D.Disk.world c.install.new.disk in
    let whole = subst IsConsistent c.self.view_is c.self.invariant.0 in
    let next_is = c.in_ok-next.ensures.next ∙ ap (λ (k : StoreValue). record k.manifest { version = with_numbers c.args.settings c.args.pages k.manifest.version.epoch k.manifest.version }) c.self.view_is in
    let agrees = tied_agree spelling bytes store s a (g.met.D.Disk.current c.args.disk.now tells) tied in
    reset_refused spelling bytes store s a whole.slot tied c.args.settings c.args.pages b whole.version (subst (λ (m : Manifest). IsVersion m.version) next_is c.in_ok-next.ensures.sound) whole.rows c.requires.settings
    c.requires.ratio (omega (arith, agrees.pages, c.requires.more)) c.requires.most agrees.epoch (subst (λ (m : Manifest). WriteMoves (other_place m.slot) 131072 a b) next_is c.install.ensures.moves)
    c.in-Err.fault c.from-why.result _ c.from-why.ensures (subst (λ (m : Manifest). HasInstallCause (other_place m.slot) a b c.in-Err.fault) next_is c.in-Err.ensures.cause)
    (λ is. c.in-Err.ensures.unwritten (c.in-Err.ensures.limit.0 (ap Err is)))
    (λ other. subst (λ (m : Manifest). m.version.epoch < last_epoch) next_is
    (below_last c.in_ok-next.next.version.epoch c.in_ok-next.ensures.sound.epoch (λ last. other (one_fault _ c.in-Err.fault fault.Epoch refl (c.in-Err.ensures.limit.1 last)))))
    (subst (λ (m : Manifest). Leads {T = Unit {0}} {E = ManifestFault} (StandsInSlot m.slot m.other_open v) (IsOldOrNew (install_of m v)) (IsInstalled (install_of m v)) (Err c.in-Err.fault) a b) next_is
    (c.in-Err.ensures.crash v tells (sym (ap (λ (m : Manifest). m.version.epoch) next_is))))
    c.stop_by.ensures

pub returns-in-Err-clause-refused : goal.returns-in-Err-clause-refused
returns-in-Err-clause-refused g c =
    let next_is = c.in_ok-next.ensures.next ∙ ap (λ (k : StoreValue). record k.manifest { version = with_numbers c.args.settings c.args.pages k.manifest.version.epoch k.manifest.version }) c.self.view_is in
    let a = g.D.Disk.world c.args.disk.now in
    let b = g.D.Disk.world c.install.new.disk in
    let same = ap (λ (m : Manifest). m.version.epoch) next_is in
    reset_is_refused c.args.self.now.manifest.version (other_place c.in_ok-next.next.slot) a b c.in-Err.fault c.from-why.result c.from-why.ensures c.in-Err.ensures.cause
    (λ is. (sym same ∙ c.in-Err.ensures.limit.0 (ap Err is), c.in-Err.ensures.unwritten (c.in-Err.ensures.limit.0 (ap Err is))))
    (λ other. subst (λ (m : Manifest). m.version.epoch < last_epoch) next_is
    (below_last c.in_ok-next.next.version.epoch c.in_ok-next.ensures.sound.epoch (λ last. other (one_fault _ c.in-Err.fault fault.Epoch refl (c.in-Err.ensures.limit.1 last)))))

pub returns-in-Err-clause-store : goal.returns-in-Err-clause-store
returns-in-Err-clause-store g c = c.stop_by.ensures

pub returns-in-Err-clause-moves : goal.returns-in-Err-clause-moves
returns-in-Err-clause-moves g c =
    let next_is = c.in_ok-next.ensures.next ∙ ap (λ (k : StoreValue). record k.manifest { version = with_numbers c.args.settings c.args.pages k.manifest.version.epoch k.manifest.version }) c.self.view_is in
    subst (λ (m : Manifest). WriteMoves (other_place m.slot) 131072 (g.D.Disk.world c.args.disk.now) (g.D.Disk.world c.install.new.disk)) next_is c.install.ensures.moves

pub numbered_version-requires-clause-more : goal.numbered_version-requires-clause-more
numbered_version-requires-clause-more g c = subst (λ (k : StoreValue). k.manifest.version.pages ≤ c.args.pages) (sym c.self.view_is) c.requires.more
