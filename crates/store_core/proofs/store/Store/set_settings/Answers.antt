use Rattle.std.proofs.Common.{◌∙◌, ℕ, refl, sym, ap, subst}
use Rattle.std.specs.Prelude.{Result}
use Rattle.disk_trait.proofs.Calls.{reads_none}
use Rattle.state_model.specs.Resets.{with_settings}
use Rattle.table_model.specs.Tables.{filter_bytes_of}
use Rattle.store_core.specs.Resetting.{Resets}
use Rattle.store_core.specs.StoreValue.{IsConsistent, StoreValue}
use Rattle.store_core.specs.declared.error.StoreError.{StoreError}
use Rattle.store_core.specs.declared.store.Store.TheInside.{Inside}
use Rattle.store_core.proofs.Agreed.{tied_agree}
use Rattle.store_core.proofs.FlushAnswers.{passed_on}
use Rattle.store_core.proofs.Resets.{not_reset}
use Rattle.store_core.proofs.store.Store.set_settings.Goals as goal

pub returns-clause-resets : goal.returns-clause-resets
returns-clause-resets g c s tells running tied =
    let spelling = g.F.RangeFilter.spelling in
    let bytes = filter_bytes_of spelling g.F.RangeFilter.built_cutoff in
    let a = g.D.Disk.world c.args.disk.now in
    let agrees = tied_agree spelling bytes c.args.self.now s a (g.met.D.Disk.current c.args.disk.now tells) tied in
    let pages = agrees.pages ∙ (sym (ap (λ (k : StoreValue). k.manifest.version.pages) c.self.view_is) ∙ sym (ap (λ (i : Inside _). i.version.version.pages) c.self-inside.view_is)) in
    subst (λ (n : ℕ). Resets spelling bytes s (with_settings c.args.settings (record s { pages = n })) c.install_numbers.result c.install_numbers.new.self a (g.D.Disk.world c.install_numbers.new.disk)) (sym pages)
    (c.install_numbers.ensures.resets s tells tied)

pub returns-in_err-check_settings-clause-resets : goal.returns-in_err-check_settings-clause-resets
returns-in_err-check_settings-clause-resets g c s tells running tied =
    let spelling = g.F.RangeFilter.spelling in
    let bytes = filter_bytes_of spelling g.F.RangeFilter.built_cutoff in
    let a = g.D.Disk.world c.args.disk.now in
    let store = c.args.self.now in
    let whole = subst IsConsistent c.self.view_is c.self.invariant.0 in
    subst (λ (r : Result (Unit {0}) StoreError). Resets spelling bytes s (with_settings c.args.settings s) r store a a) (passed_on c.from_residual.result _ c.from_residual.ensures.1)
    (not_reset spelling bytes store s a whole.slot tied (with_settings c.args.settings s) _ store a (reads_none 0 a) refl)
