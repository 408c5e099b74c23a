use Rattle.std.proofs.Common.{◌≡◌, ◌+◌, ◌*◌, ◌≤◌, ◌∙◌, length, take, drop, sym, ap, ap₂, subst, arith, length-take-le}
use Rattle.std.proofs.lemmas.List.{take_at}
use Rattle.disk_trait.specs.Image.{window}
use Rattle.disk_trait.proofs.Images.{window_size}
use Rattle.block_model.specs.Index.{IndexRow}
use Rattle.block_model.specs.Places.{byte_of_page}
use Rattle.table_file.specs.Opened.{Opened}
use Rattle.table_file.specs.Search.{bytes_at, page_at, row_at}
use Rattle.table_file.proofs.table.Table.fetch.Goals as goal

pub returns-clause-bytes : goal.returns-clause-bytes
returns-clause-bytes g c tells =
    let t = c.self.inside in
    let r = c.row-block.result.now in
    let n = c.args.n in
    let held = (g.D.Disk.world c.args.disk.now).seen.held in
    let size = 4096 * r.pages in
    let seen : Opened = record { row = t.row; index = t.index; filter = record { hash_bits = g.F.RangeFilter.hash_bits t.filter; real_bits = g.F.RangeFilter.real_bits t.filter; cutoff = g.F.RangeFilter.cutoff t.filter; leaves = g.F.RangeFilter.leaf_list t.filter } } in
    let place : 4096 * (c.from.result + r.first) ≡ byte_of_page (page_at seen n) = omega (arith, c.from.ensures, c.row-block.ensures.first) in
    let room : 4096 * (row_at t.index.rows n).pages ≤ length c.args.buf.now =
    subst (λ (x : Opened). 4096 * (row_at x.index.rows n).pages ≤ length c.args.buf.now) (sym c.self.view_is) c.requires.room in
    let long : length (take size c.args.buf.now) ≡ 4096 * (row_at t.index.rows n).pages =
    omega (arith, length-take-le size c.args.buf.now (omega (arith, ap (λ (x : IndexRow). x.pages) c.row-block.ensures.row, room)), ap (λ (x : IndexRow). x.pages) c.row-block.ensures.row) in
    let here : c.read.new.into ≡ bytes_at seen n held = c.in_ok-read.ensures.bytes tells ∙ ap₂ (window held) place long in
    take_at c.read.new.into (drop size c.args.buf.now) size (ap length here ∙ window_size held _ _ ∙ sym (ap (λ (x : IndexRow). 4096 * x.pages) c.row-block.ensures.row))
    ∙ here ∙ ap (λ (x : Opened). bytes_at x n held) c.self.view_is
