use Rattle.std.proofs.Common.{◌≡◌, ◌<◌, ◌≤◌, ◌+◌, ◌*◌, ◌-◌}
use Rattle.std.specs.Prelude.{IsTrue}
use Rattle.disk_trait.specs.World.{ReadMoves}
use Rattle.key_base.specs.Limits.{max_key_bytes}
use Rattle.level_merge.specs.JobValue.{IsBuilding}
use Rattle.level_merge.specs.SliceSteps.{FillsOutput, PassesBlocks}
use Rattle.merge_rows.specs.Reads.{OnlyReads, blocks_left}
use Rattle.merge_rows.specs.Steps.{IsSoundMerge, SourcesStay}
use Rattle.merge_rows.proofs.Rank.{height, strings}
use Rattle.level_merge.proofs.taking.take_rows.Given as goal

-- rows were taken, and a given number of blocks were read for them
abbrev pub invariant-loop-rows : goal.invariant-loop-rows
invariant-loop-rows g l =
    let tells = g.D.Disk.tells in
    let tables = l.tables.tables in
    let before = g.D.Disk.world l.fn.disk in
    let after = g.D.Disk.world l.disk in
    record {
      stay : SourcesStay tells tables before.seen.held l.fn.rows l.rows;
      building : IsBuilding l.rows.floor l.built.entries;
      settings : l.built.settings ≡ l.fn.built.settings;
      ranges : l.built.ranges ≡ l.fn.built.ranges;
      fills : FillsOutput tells tables before.seen.held l.beside l.drops l.fn.rows l.rows l.fn.built.entries l.built.entries;
      within : l.left ≤ l.blocks;
      passes : PassesBlocks tells tables before.seen.held l.blocks l.fn.rows.walks l.rows.walks;
      some : l.left < l.blocks → blocks_left tables l.rows.walks < blocks_left tables l.fn.rows.walks;
      moves : OnlyReads before after;
      caught_up_past : ReadMoves (2 * (l.blocks - l.left)) before after;
      counted : IsTrue tells → IsSoundMerge l.fn.rows tables before.seen.held → ReadMoves (l.blocks - l.left) before after;
    }

-- keys rise, and there are not more of them than this
abbrev pub decreases-loop-rows : goal.decreases-loop-rows
decreases-loop-rows g l = strings max_key_bytes + 1 - height max_key_bytes l.rows.floor
