use Rattle.std.proofs.Common.{◌<◌, ◌∙◌, length, sym, ap, arith}
use Rattle.std.proofs.lemmas.Bool.{eqb-true}
use Rattle.block_model.proofs.LastBlocks.{positive}
use Rattle.block_model.specs.Pages.{data_pages}
use Rattle.table_file.specs.BlockRows.{rows_seen}
use Rattle.table_file.specs.Building.{Built}
use Rattle.table_file.proofs.Builders.{bytes_long, few_pages, open_is, pages_closed, pages_open}
use Rattle.table_file.proofs.builder.TableBuilder.data_pages.Goals as goal

pub returns-then-is_empty : goal.returns-then-is_empty
returns-then-is_empty c =
    let t = c.self.inside in
    let long = bytes_long _ t.blocks.items (rows_seen t.rows.items) t.«open» t.keys c.self.invariant.2 in
    let pages = pages_closed _ t.blocks.items (rows_seen t.rows.items) t.«open» t.keys c.self.invariant.2 (eqb-true _ _ (sym c.is_empty.ensures ∙ c.if-is_empty.true)) in
    omega (arith, c.len.ensures, long, pages, ap (λ (b : Built). data_pages b.entries) c.self.view_is)

pub overflow_add-result : goal.overflow_add-result
overflow_add-result c =
    let t = c.self.inside in
    let some : 0 < length t.«open» = positive (length t.«open») (sym c.if-is_empty.false ∙ c.is_empty.ensures) in
    let few = few_pages t.«open» (open_is _ t.blocks.items (rows_seen t.rows.items) t.«open» t.keys c.self.invariant.2 some) in
    record { fits = omega (arith, c.len.ensures, c.pages.ensures, few) }

pub returns : goal.returns
returns c =
    let t = c.self.inside in
    let some : 0 < length t.«open» = positive (length t.«open») (sym c.if-is_empty.false ∙ c.is_empty.ensures) in
    let long = bytes_long _ t.blocks.items (rows_seen t.rows.items) t.«open» t.keys c.self.invariant.2 in
    let pages = pages_open _ t.blocks.items (rows_seen t.rows.items) t.«open» t.keys c.self.invariant.2 some in
    omega (arith, c.len.ensures, c.pages.ensures, long, pages, ap (λ (b : Built). data_pages b.entries) c.self.view_is)
