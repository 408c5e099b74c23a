use Rattle.std.proofs.Common.{arith}
use Rattle.store_core.proofs.CompactSound.{have_all, have_one}
use Rattle.store_core.proofs.compacting.have_their_pages.Goals as goal

pub loop-i-preserved : goal.loop-i-preserved
loop-i-preserved g c = have_one c.args.tables.now c.loop-i.i c.index-tables-i.result (omega (arith, c.loop-i-test.true)) c.index-tables-i.is c.row_of.ensures.pages c.loop-i.invariant

pub returns : goal.returns
returns g c = have_all c.args.tables.now c.loop-i.i c.loop-i-test.false c.loop-i.invariant
