use Rattle.std.proofs.Common.{rules}
use Rattle.table_file.proofs.Searches.{damaged_never_memory, sum_damaged}
use Rattle.table_file.proofs.table.Table.walk_read.Goals as goal

pub returns-in_err-check_block-clause-never_memory : goal.returns-in_err-check_block-clause-never_memory
returns-in_err-check_block-clause-never_memory g c =
    let t = c.args.self.now in
    let why = c.in_err-check_block.field-0.0 in
    let other = sum_damaged t c.args.n c.args.bytes.now why (c.in_err-check_block.ensures.other c.args.bytes.now c.read_sum_and_walk-sum.ensures.sum) in
    let here = damaged_never_memory t c.args.n c.args.bytes.now why other in
    search rules

pub returns-in-Err-clause-never_memory : goal.returns-in-Err-clause-never_memory
returns-in-Err-clause-never_memory g c = damaged_never_memory c.args.self.now c.args.n c.args.bytes.now c.broken.result (search rules)
