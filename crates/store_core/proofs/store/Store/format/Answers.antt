use Rattle.disk_trait.proofs.Calls.{leads_stop}
use Rattle.image_model.specs.Stands.{IsStateOf}
use Rattle.manifest_model.specs.Slots.{IsNoStore}
use Rattle.state_model.specs.State.{new_state}
use Rattle.store_core.specs.Formatting.{IsNoneOrNew}
use Rattle.store_core.proofs.News.{looked_then}
use Rattle.store_core.proofs.store.Store.format.Goals as goal

pub returns-in_err-make_store-clause-crash : goal.returns-in_err-make_store-clause-crash
returns-in_err-make_store-clause-crash g c tells =
    let spelling = g.F.RangeFilter.spelling in
    let new = new_state c.args.settings c.args.pages in
    looked_then spelling c.args.settings c.args.pages _ 2 _ _ _ c.is_store.ensures.moves
    (leads_stop IsNoStore (IsNoneOrNew spelling c.args.settings c.args.pages) (IsStateOf spelling new) (IsNoneOrNew spelling c.args.settings c.args.pages) (IsStateOf spelling new)
    c.in_err-make_store.field-0.0 _ _ _ (λ f q. q) c.from_residual-in_err-make_store.ensures.0 (c.in_err-make_store.ensures.crash spelling tells))

pub returns-clause-crash : goal.returns-clause-crash
returns-clause-crash g c tells =
    let made = c.in_ok-make_store.ensures.crash g.F.RangeFilter.spelling tells in
    looked_then g.F.RangeFilter.spelling c.args.settings c.args.pages _ 2 _ _ _ c.is_store.ensures.moves (record { meanwhile = made.meanwhile; after = made.after })
