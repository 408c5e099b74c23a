use Rattle.std.proofs.Common.{◌≡◌, ◌+◌, ◌/◌, length, subst, arith}
use Rattle.table_model.specs.Tables.{filter_bytes_of, source_pages}
use Rattle.table_file.specs.Building.{Built, source_in}
use Rattle.table_file.proofs.PartsMade.{pages_are}
use Rattle.table_file.proofs.parts.pages_of.Goals as goal

pub overflow_add-result : goal.overflow_add-result
overflow_add-result g c = record { fits = omega (arith, c.len.ensures, c.parts.inside.blocks.small, c.pages.ensures.small) }

pub overflow_add-result-2 : goal.overflow_add-result-2
overflow_add-result-2 g c = record { fits = omega (arith, c.len.ensures, c.parts.inside.blocks.small, c.pages.ensures.small, c.pages-2.ensures.small) }

pub returns : goal.returns
returns g c =
    let p = c.parts.inside in
    let len : c.len.result ≡ length p.blocks.items = omega (arith, c.len.ensures) in
    subst (λ (b : Built). c.len.result / 4096 + c.pages.result + c.pages-2.result ≡ source_pages (filter_bytes_of g.F.RangeFilter.spelling g.F.RangeFilter.built_cutoff) b.settings (source_in b)) c.parts.view_is
    (pages_are _ _ _ _ _ _ _ _ _ _ c.parts.invariant c.len.result c.pages.result c.pages-2.result len c.pages.ensures.pages c.pages-2.ensures.pages)
