use Rattle.std.proofs.Common.{◌≡◌, ◌+◌, ℕ, [], length, sym, ap, ap₂, ◌∙◌, arith}
use Rattle.map_model.specs.SortedMap.{Bytes}
use Rattle.block_model.specs.Formats.{places_length}
use Rattle.block_model.specs.Pages.{block_length, block_pages, pages_for}
use Rattle.block_format.proofs.Builders.{many_in}
use Rattle.block_format.proofs.builder.BlockBuilder.pages.Goals as goal

pub returns : goal.returns
unfolding block_length pages_for block_pages
returns c =
    let n = c.self.inside.count in
    let bytes = c.self.inside.bytes.items in
    let len : c.len.result ≡ length bytes = omega (arith, c.len.ensures) in
    let place : c.entries_place.result ≡ 8 + places_length n = c.entries_place.ensures.is ∙ ap (λ (k : ℕ). 8 + places_length k) c.from.ensures in
    c.pages_for.ensures
    ∙ ap₂ (λ (p l : ℕ). pages_for (p + l)) place len
    ∙ ap₂ (λ (k : ℕ) (l : Bytes). pages_for (8 + places_length k + length l)) (sym (many_in n [] bytes)) (sym c.self.invariant.1.spelled)
    ∙ ap block_pages c.self.view_is
