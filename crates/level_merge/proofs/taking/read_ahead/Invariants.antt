use Rattle.std.proofs.Common.{◌<◌, ◌≤◌, ◌-◌, ◌*◌}
use Rattle.std.specs.Prelude.{IsTrue}
use Rattle.disk_trait.specs.World.{ReadMoves}
use Rattle.level_merge.specs.SliceSteps.{KeepsRows, PassesBlocks}
use Rattle.merge_rows.specs.Reads.{OnlyReads, blocks_left}
use Rattle.merge_rows.specs.Steps.{IsSoundMerge}
use Rattle.level_merge.proofs.taking.read_ahead.Given as goal

-- a given number of blocks were read, and no row was passed
abbrev pub invariant-loop-left : goal.invariant-loop-left
invariant-loop-left g l =
    let tells = g.D.Disk.tells in
    let tables = l.tables.tables in
    let before = g.D.Disk.world l.fn.disk in
    let after = g.D.Disk.world l.disk in
    record {
      kept : KeepsRows tells tables before.seen.held l.fn.rows l.rows;
      within : l.left ≤ l.blocks;
      fewer : blocks_left tables l.rows.walks ≤ blocks_left tables l.fn.rows.walks;
      some : l.left < l.blocks → blocks_left tables l.rows.walks < blocks_left tables l.fn.rows.walks;
      passes : PassesBlocks tells tables before.seen.held l.blocks l.fn.rows.walks l.rows.walks;
      moves : OnlyReads before after;
      caught_up_past : ReadMoves (2 * (l.blocks - l.left)) before after;
      counted : IsTrue tells → IsSoundMerge l.fn.rows tables before.seen.held → ReadMoves (l.blocks - l.left) before after;
    }

abbrev pub decreases-loop-left : goal.decreases-loop-left
decreases-loop-left g l = l.left
