use Rattle.std.proofs.Common.{◌≡◌, ◌≤◌, ◌/◌, length, refl, ap, subst, arith}
use Rattle.byte_fields.specs.declared.parts.Row.{Row}
use Rattle.entry_model.specs.Entries.{keys_of}
use Rattle.block_model.specs.Pages.{pages_for}
use Rattle.table_model.specs.Tables.{filter_bytes_of, source_pages}
use Rattle.table_model.specs.Written.{row_from}
use Rattle.table_file.specs.Building.{Built, source_in}
use Rattle.table_file.proofs.PartsMade.{pages_are, row_is}
use Rattle.table_file.proofs.parts.Parts.row.Goals as goal

pub overflow_cast-result : goal.overflow_cast-result
overflow_cast-result g c =
    let p = c.self.inside in
    let filter_bytes = filter_bytes_of g.F.RangeFilter.spelling g.F.RangeFilter.built_cutoff in
    let len : c.len.result ≡ length p.blocks.items = omega (arith, c.len.ensures) in
    let all = pages_are _ _ _ _ _ _ _ _ _ _ c.self.invariant c.len.result (pages_for (length p.index_part)) (pages_for (length p.filter_part)) len refl refl in
    let few : c.len.result / 4096 ≤ 16777216 = omega (arith, all, ap (λ (b : Built). source_pages filter_bytes b.settings (source_in b)) c.self.view_is, c.requires) in
    record { fits = omega (arith, few) }

pub overflow_cast-result-2 : goal.overflow_cast-result-2
overflow_cast-result-2 g c =
    let p = c.self.inside in
    let filter_bytes = filter_bytes_of g.F.RangeFilter.spelling g.F.RangeFilter.built_cutoff in
    let len : c.len.result ≡ length p.blocks.items = omega (arith, c.len.ensures) in
    let all = pages_are _ _ _ _ _ _ _ _ _ _ c.self.invariant c.len.result c.pages.result (pages_for (length p.filter_part)) len c.pages.ensures.pages refl in
    let few : c.pages.result ≤ 16777216 = omega (arith, all, ap (λ (b : Built). source_pages filter_bytes b.settings (source_in b)) c.self.view_is, c.requires) in
    record { fits = omega (arith, few) }

pub overflow_cast-result-3 : goal.overflow_cast-result-3
overflow_cast-result-3 g c =
    let p = c.self.inside in
    let filter_bytes = filter_bytes_of g.F.RangeFilter.spelling g.F.RangeFilter.built_cutoff in
    let len : c.len.result ≡ length p.blocks.items = omega (arith, c.len.ensures) in
    let all = pages_are _ _ _ _ _ _ _ _ _ _ c.self.invariant c.len.result c.pages.result c.pages-2.result len c.pages.ensures.pages c.pages-2.ensures.pages in
    let few : c.pages-2.result ≤ 16777216 = omega (arith, all, ap (λ (b : Built). source_pages filter_bytes b.settings (source_in b)) c.self.view_is, c.requires) in
    record { fits = omega (arith, few) }

pub returns : goal.returns
returns g c =
    let p = c.self.inside in
    let len : c.len.result ≡ length p.blocks.items = omega (arith, c.len.ensures) in
    subst (λ (b : Built). ◌≡◌ {A = Row}
    (record {
      level = c.args.level;
      first_page = c.args.first_page;
      data_pages = c.len.result / 4096;
      index_pages = c.pages.result;
      filter_pages = c.pages-2.result;
      entries = p.entries;
      index_len = c.len-2.result;
      filter_len = c.len-3.result;
      index_sum = c.sum.result;
      filter_sum = c.sum-2.result;
      hash_bits = p.settings.hash_bits;
      real_bits = p.settings.real_bits;
      ratio = p.settings.ratio;
    })
    (row_from c.args.level c.args.first_page b.settings (source_in b) (filter_bytes_of g.F.RangeFilter.spelling g.F.RangeFilter.built_cutoff b.settings (keys_of b.entries)))) c.self.view_is
    (row_is _ _ _ _ _ _ _ _ _ _ c.self.invariant c.args.level c.args.first_page c.len.result c.pages.result c.pages-2.result c.len-2.result c.len-3.result c.sum.result c.sum-2.result
    len c.pages.ensures.pages c.pages-2.ensures.pages c.len-2.ensures c.len-3.ensures c.sum.ensures c.sum-2.ensures)
