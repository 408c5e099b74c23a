use Rattle.std.proofs.Common.{rules, take}
use Rattle.table_file.proofs.Searches.{damaged_never_memory, sum_damaged}
use Rattle.table_file.proofs.table.Table.read_block.Goals as goal

pub returns-in_err-check_block-clause-never_memory : goal.returns-in_err-check_block-clause-never_memory
returns-in_err-check_block-clause-never_memory g c =
    let t = c.args.self.now in
    let bytes = take c.in_ok-size.size c.fetch.new.buf in
    let why = c.in_err-check_block.field-0.0 in
    let here = damaged_never_memory t c.args.n bytes why (sum_damaged t c.args.n bytes why (c.in_err-check_block.ensures.other bytes c.fnv1a.ensures)) in
    search rules
