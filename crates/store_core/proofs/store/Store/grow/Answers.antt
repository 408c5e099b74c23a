use Rattle.std.proofs.Common.{◌∙◌, refl, sym, ap, subst}
use Rattle.disk_trait.proofs.Calls.{reads_none}
use Rattle.filter_api.specs.declared.settings.Settings.{Settings}
use Rattle.image_model.specs.Stands.{settings_of}
use Rattle.state_model.specs.Resets.{with_pages, with_settings}
use Rattle.table_model.specs.Tables.{filter_bytes_of}
use Rattle.store_core.specs.Resetting.{Resets}
use Rattle.store_core.specs.StoreValue.{IsConsistent, StoreValue}
use Rattle.store_core.specs.declared.store.Store.TheInside.{Inside}
use Rattle.store_core.proofs.Agreed.{tied_agree}
use Rattle.store_core.proofs.Resets.{not_reset}
use Rattle.store_core.proofs.store.Store.grow.Goals as goal

pub returns-clause-resets : goal.returns-clause-resets
returns-clause-resets g c s tells running tied =
    let spelling = g.F.RangeFilter.spelling in
    let bytes = filter_bytes_of spelling g.F.RangeFilter.built_cutoff in
    let a = g.D.Disk.world c.args.disk.now in
    let agrees = tied_agree spelling bytes c.args.self.now s a (g.met.D.Disk.current c.args.disk.now tells) tied in
    let settings = agrees.settings ∙ (sym (ap (λ (k : StoreValue). settings_of k.manifest.version) c.self.view_is) ∙ sym (ap (λ (i : Inside _). settings_of i.version.version) c.self-inside.view_is)) in
    subst (λ (own : Settings). Resets spelling bytes s (with_settings own (record s { pages = c.args.pages })) c.install_numbers.result c.install_numbers.new.self a (g.D.Disk.world c.install_numbers.new.disk)) (sym settings)
    (c.install_numbers.ensures.resets s tells tied)

pub returns-then-pages-from-clause-resets : goal.returns-then-pages-from-clause-resets
returns-then-pages-from-clause-resets g c s tells running tied =
    let spelling = g.F.RangeFilter.spelling in
    let bytes = filter_bytes_of spelling g.F.RangeFilter.built_cutoff in
    let a = g.D.Disk.world c.args.disk.now in
    let whole = subst IsConsistent c.self.view_is c.self.invariant.0 in
    not_reset spelling bytes c.args.self.now s a whole.slot tied (with_pages c.args.pages s) _ c.args.self.now a (reads_none 0 a) refl
