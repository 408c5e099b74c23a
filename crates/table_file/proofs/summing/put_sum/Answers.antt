use Rattle.table_file.proofs.BlockSums.{rows_put, sums_put}
use Rattle.table_file.proofs.summing.put_sum.Goals as goal

pub returns-clause-rows : goal.returns-clause-rows
returns-clause-rows c bytes are = rows_put c.args.rows.now c.args.n c.requires c.index-rows-n.result c.args.sum bytes are

pub returns-clause-sums : goal.returns-clause-sums
returns-clause-sums c first bytes seen sum = sums_put c.args.rows.now c.args.n c.requires c.index-rows-n.result c.args.sum first bytes seen sum
