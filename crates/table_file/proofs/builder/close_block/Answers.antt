use Rattle.std.proofs.Common.{◌≡◌, ◌≤◌, ◌/◌, ◌++◌, ◌∷◌, [], List, ap, sym, subst, arith}
use Rattle.block_model.specs.Index.{row_pages}
use Rattle.table_file.specs.BlockRows.{StandFrom, rows_seen}
use Rattle.table_file.specs.declared.block_row.BlockRow.{BlockRow}
use Rattle.table_file.proofs.Builders.{few_pages}
use Rattle.table_file.proofs.IndexWalks.{stand_more}
use Rattle.table_file.proofs.builder.close_block.Goals as goal

pub overflow_cast-pages : goal.overflow_cast-pages
overflow_cast-pages c =
    let few : c.pages-pages.result ≤ 257 = omega (arith, c.pages-pages.ensures, few_pages c.args.«open».now c.requires.sound) in
    record { fits = omega (arith, few) }

pub returns-clause-stand : goal.returns-clause-stand
returns-clause-stand c =
    let row : BlockRow = record { first = c.len-at.result / 4096; pages = c.pages-pages.result; sum = 0; last = c.in_ok-last.last } in
    let pushed : c.push_reserved.new.self.items ≡ c.reserve.new.self.items ++ row ∷ [] = c.push_reserved.ensures.items in
    let same = c.in_ok-reserve.ensures.items in
    subst (StandFrom 0) (sym pushed)
    (stand_more 0 c.reserve.new.self.items row (subst (StandFrom 0) (sym same) c.requires.stand)
    (omega (arith, c.len-at.ensures, c.requires.whole, ap (λ (rs : List BlockRow). row_pages (rows_seen rs)) same)))
