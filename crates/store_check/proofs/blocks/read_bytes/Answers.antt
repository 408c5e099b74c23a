use Rattle.std.proofs.Common.{◌++◌, length, drop, arith}
use Rattle.store_check.proofs.Rooms.{block_inside, few_taken}
use Rattle.store_check.proofs.blocks.read_bytes.Goals as goal

pub overflow_mul-first_page : goal.overflow_mul-first_page
overflow_mul-first_page g c = omega (arith, c.first_page.ensures.page, block_inside c.args.index.now c.args.n c.first_page.ensures.inside c.requires)

pub read-requires : goal.read-requires
read-requires g c =
    let inside = block_inside c.args.index.now c.args.n c.first_page.ensures.inside c.requires in
    omega (arith, inside, c.first_page.ensures.page, c.deref_mut.ensures.len, c.in_ok-bytes.ensures.len, c.block_bytes.ensures.size)

pub returns-clause-place : goal.returns-clause-place
returns-clause-place g c =
    let inside = block_inside c.args.index.now c.args.n c.first_page.ensures.inside c.requires in
    let bytes = c.in_ok-bytes.bytes in
    omega (arith, inside, few_taken bytes.len (c.read.new.into ++ drop (length c.read.new.into) bytes.items), c.in_ok-bytes.ensures.len, c.block_bytes.ensures.size)
