use Rattle.std.proofs.Common.{Bor, sym, ap, ◌∙◌}
use Rattle.std.specs.Prelude.{Option, Some, option_map}
use Rattle.std.specs.Box.{boxed_slice_items}
use Rattle.std.specs.Option.{option_copied}
use Rattle.block_cache.specs.Kept.{BlockPlace, kept_of}
use Rattle.block_cache.proofs.Shown.{shown_kept}
use Rattle.block_cache.proofs.cache.BlockCache.peek.Goals as goal

pub returns-in-Some : goal.returns-in-Some
returns-in-Some c =
    let place : BlockPlace = (c.args.table, c.args.block) in
    ap Some c.as_slice.ensures.value
    ∙ ap (λ o. option_map boxed_slice_items (option_copied o)) (sym c.in-Some.is) ∙ ap (option_map boxed_slice_items) c.peek.ensures
    ∙ sym (shown_kept boxed_slice_items place c.self.inside.kept.entries) ∙ ap (kept_of place) c.self.view_is

pub returns-in-None : goal.returns-in-None
returns-in-None c =
    let place : BlockPlace = (c.args.table, c.args.block) in
    ap (λ o. option_map boxed_slice_items (option_copied o)) (sym c.in-None.is) ∙ ap (option_map boxed_slice_items) c.peek.ensures
    ∙ sym (shown_kept boxed_slice_items place c.self.inside.kept.entries) ∙ ap (kept_of place) c.self.view_is
