use Rattle.std.proofs.Common.{ap, ◌∙◌, arith}
use Rattle.block_model.specs.Index.{Index, row_pages}
use Rattle.block_model.proofs.Lengths.{in_pages}
use Rattle.table_file.proofs.Damages.{pages_kept}
use Rattle.table_file.proofs.opening.read_index.Goals as goal

pub read_part-requires : goal.read_part-requires
read_part-requires g c = omega (arith, c.from.ensures, c.from-2.ensures, c.requires.within, c.requires.index_pages, in_pages c.args.row.now.index_len)

pub new-requires : goal.new-requires
new-requires g c = record {
  fits = c.requires;
  pages = ap (λ (x : Index). row_pages x.rows) c.in_ok-blocks.ensures.index ∙ pages_kept c.args.row.now.data_pages _ c.in_ok-blocks.ensures.kept;
}
