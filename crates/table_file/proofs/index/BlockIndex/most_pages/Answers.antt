use Rattle.std.proofs.Common.{◌∙◌, ap, arith}
use Rattle.block_model.specs.Index.{Index}
use Rattle.table_file.specs.Walks.{most_block_pages}
use Rattle.table_file.proofs.Rooms.{few_pages_each}
use Rattle.table_file.proofs.index.BlockIndex.most_pages.Goals as goal

pub returns-clause-is : goal.returns-clause-is
returns-clause-is c = c.self.invariant.2 ∙ ap (λ (x : Index). most_block_pages x.rows) c.self.view_is

pub returns-clause-few : goal.returns-clause-few
returns-clause-few c = omega (arith, c.self.invariant.2, few_pages_each _ c.self.invariant.0.each)
