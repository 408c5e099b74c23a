use Rattle.std.proofs.Common.{List, length, sym, ap, ◌∙◌, arith}
use Rattle.std.specs.Prelude.{is_some}
use Rattle.std.specs.Box.{boxed_slice_items}
use Rattle.block_cache.specs.Kept.{BlockPlace, KeptBlock, kept_of, brought_first}
use Rattle.block_cache.proofs.Shown.{shown, shown_kept, shown_first, first_count, is_some-seen}
use Rattle.block_cache.proofs.cache.BlockCache.bring_first.Goals as goal

pub returns-clause-is_kept : goal.returns-clause-is_kept
returns-clause-is_kept c =
    let place : BlockPlace = (c.args.table, c.args.block) in
    let es = c.self.inside.kept.entries in
    c.promote.ensures.value ∙ sym (ap is_some (shown_kept boxed_slice_items place es) ∙ is_some-seen boxed_slice_items _) ∙ ap (λ (l : List KeptBlock). is_some (kept_of place l)) c.self.view_is

pub returns-clause-brought : goal.returns-clause-brought
returns-clause-brought c =
    let place : BlockPlace = (c.args.table, c.args.block) in
    ap (λ s. shown boxed_slice_items s.entries) c.promote.ensures.entries
    ∙ shown_first boxed_slice_items place c.self.inside.kept.entries ∙ ap (brought_first place) c.self.view_is

pub invariant_of-self : goal.invariant_of-self
invariant_of-self c =
    let place : BlockPlace = (c.args.table, c.args.block) in
    let entries = ap (λ s. s.entries) c.promote.ensures.entries in (
      ap (λ s. s.cap) c.promote.ensures.entries ∙ c.self.invariant.0,
      omega (arith, ap length entries, first_count boxed_slice_items place c.self.inside.kept.entries, c.self.invariant.1),
    )
