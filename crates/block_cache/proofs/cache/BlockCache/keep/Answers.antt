use Rattle.std.proofs.Common.{◌≡◌, ◌≤◌, ℕ, length, sym, ap, ◌∙◌, subst, ◌-◌, ◌∷◌, take}
use Rattle.std.specs.Box.{boxed_slice_items}
use Rattle.std.specs.Option.{option_map_or}
use Rattle.std.specs.Map.{lookup_entry, remove_entry}
use Rattle.block_cache.specs.Kept.{BlockPlace, is_place, with_kept}
use Rattle.block_cache.proofs.Shown.{shown, shown_with, with_count}
use Rattle.block_cache.proofs.Results.{by_result}
use Rattle.block_cache.proofs.cache.BlockCache.keep.Goals as goal

pub returns-in-Ok-clause-kept : goal.returns-in-Ok-clause-kept
returns-in-Ok-clause-kept c =
    let place : BlockPlace = (c.args.table, c.args.block) in
    let es = c.self.inside.kept.entries in
    ap (λ s. shown boxed_slice_items s.entries) c.in-Ok.ensures.entries
    ∙ ap (λ (n : ℕ). shown boxed_slice_items (option_map_or (λ e. (e.0, c.args.bytes) ∷ remove_entry (is_place place) es) (lookup_entry (is_place place) es) ((place, c.args.bytes) ∷ take (n - 1) es))) c.self.invariant.0
    ∙ shown_with boxed_slice_items place c.args.bytes es c.self.invariant.1
    ∙ ap (with_kept place (boxed_slice_items c.args.bytes)) c.self.view_is

pub invariant_of-self : goal.invariant_of-self
invariant_of-self c =
    let place : BlockPlace = (c.args.table, c.args.block) in
    let es = c.self.inside.kept.entries in
    by_result c.put.result (λ s. (s.cap ≡ 64) × (length s.entries ≤ 64)) c.put.ensures.entries c.put.ensures.err (
      c.self.invariant.0,
      subst (λ (n : ℕ). length (option_map_or (λ e. (e.0, c.args.bytes) ∷ remove_entry (is_place place) es) (lookup_entry (is_place place) es) ((place, c.args.bytes) ∷ take (n - 1) es)) ≤ 64) (sym c.self.invariant.0)
          (with_count boxed_slice_items place c.args.bytes es c.self.invariant.1),
    )
    c.self.invariant
