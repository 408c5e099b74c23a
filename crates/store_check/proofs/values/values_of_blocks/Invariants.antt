use Rattle.std.proofs.Common.{◌≡◌, ◌≤◌, ◌*◌, IsTrue}
use Rattle.store_check.proofs.Valued.{AreCounted}
use Rattle.store_check.proofs.values.values_of_blocks.Given as goal
use Rattle.store_check.specs.Causes.{OnlyReads}
use Rattle.table_model.specs.Damage.{AreSoundBlocks}

-- the values of the blocks before this one are counted
abbrev pub invariant-loop-n : goal.invariant-loop-n
invariant-loop-n g l =
    let image = (g.D.Disk.world l.fn.disk).seen.held in
    record {
      counted : IsTrue g.D.Disk.tells → AreSoundBlocks l.index.row.first_page l.index.index.rows image → AreCounted l.index image l.n l.values;
      most : l.values ≤ 255 * l.n;
      moves : OnlyReads (g.D.Disk.world l.fn.disk) (g.D.Disk.world l.disk);
    }
