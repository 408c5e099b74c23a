use Rattle.std.proofs.Common.{◌<◌, ◌∙◌, [], List, length, take, get_or, ap, arith}
use Rattle.std.proofs.lemmas.List.{length-map}
use Rattle.block_model.specs.Index.{Index, IndexRow, IsIndexRow, row_pages}
use Rattle.block_model.proofs.Sizes.{all_at}
use Rattle.table_file.specs.BlockRows.{row_seen, rows_seen}
use Rattle.table_file.specs.Search.{row_at}
use Rattle.table_file.specs.declared.block_row.BlockRow.{BlockRow}
use Rattle.table_file.proofs.Searches.{pages_within, row_of, stand_at}
use Rattle.table_file.proofs.index.BlockIndex.row.Goals as goal

pub returns-clause-row : goal.returns-clause-row
returns-clause-row c =
    let rows = c.self.inside.rows.items in
    let is = c.index-rows-n.is ∙ ap (λ (rs : List BlockRow). get_or rs c.args.n c.index-rows-n.result) c.as_slice-rows.ensures.value in
    let there : c.args.n < length rows = omega (arith, c.requires, ap (λ (x : Index). length x.rows) c.self.view_is, length-map rows row_seen) in
    row_of rows c.args.n c.index-rows-n.result there is ∙ ap (λ (x : Index). row_at x.rows c.args.n) c.self.view_is

pub returns-clause-first : goal.returns-clause-first
returns-clause-first c =
    let rows = c.self.inside.rows.items in
    let is = c.index-rows-n.is ∙ ap (λ (rs : List BlockRow). get_or rs c.args.n c.index-rows-n.result) c.as_slice-rows.ensures.value in
    let there : c.args.n < length rows = omega (arith, c.requires, ap (λ (x : Index). length x.rows) c.self.view_is, length-map rows row_seen) in
    let stand = stand_at 0 rows c.args.n c.index-rows-n.result c.self.invariant.1 there in
    omega (arith, ap (λ (r : BlockRow). r.first) is, stand, ap (λ (x : Index). row_pages (take c.args.n x.rows)) c.self.view_is)

pub returns-clause-within : goal.returns-clause-within
returns-clause-within c =
    let rows = c.self.inside.rows.items in
    let r = c.index-rows-n.result in
    let is = c.index-rows-n.is ∙ ap (λ (rs : List BlockRow). get_or rs c.args.n r) c.as_slice-rows.ensures.value in
    let there : c.args.n < length rows = omega (arith, c.requires, ap (λ (x : Index). length x.rows) c.self.view_is, length-map rows row_seen) in
    let none : IndexRow = record { pages = 0; sum = 0; last = [] } in
    let first = ap (λ (x : BlockRow). x.first) is ∙ stand_at 0 rows c.args.n r c.self.invariant.1 there in
    let pages = ap (λ (x : IndexRow). x.pages) (row_of rows c.args.n r there is) in
    omega (arith, first, pages, pages_within (rows_seen rows) c.args.n none (omega (arith, there, length-map rows row_seen)), ap (λ (x : Index). row_pages x.rows) c.self.view_is)

pub returns-clause-few : goal.returns-clause-few
returns-clause-few c =
    let rows = c.self.inside.rows.items in
    let r = c.index-rows-n.result in
    let is = c.index-rows-n.is ∙ ap (λ (rs : List BlockRow). get_or rs c.args.n r) c.as_slice-rows.ensures.value in
    let there : c.args.n < length rows = omega (arith, c.requires, ap (λ (x : Index). length x.rows) c.self.view_is, length-map rows row_seen) in
    let none : IndexRow = record { pages = 0; sum = 0; last = [] } in
    let pages = ap (λ (x : IndexRow). x.pages) (row_of rows c.args.n r there is) in
    let sound = all_at IsIndexRow (rows_seen rows) c.args.n none c.self.invariant.0.each (omega (arith, there, length-map rows row_seen)) in
    omega (arith, pages, sound.few_pages)
