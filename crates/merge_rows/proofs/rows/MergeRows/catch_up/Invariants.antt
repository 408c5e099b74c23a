use Rattle.std.proofs.Common.{◌≡◌, ◌+◌, ◌-◌, ◌≤◌}
use Rattle.std.specs.Prelude.{IsTrue, None}
use Rattle.disk_trait.specs.World.{ReadMoves}
use Rattle.merge_rows.specs.Reads.{OnlyReads, PassSound, blocks_left, next_blocks, wanted}
use Rattle.merge_rows.specs.Steps.{IsCaughtUp, IsSoundMerge, StaysAt}
use Rattle.table_file.specs.Walks.{first_of}
use Rattle.merge_rows.proofs.rows.MergeRows.catch_up.Given as goal

-- the memory has caught up, and as many blocks were read as are needed no more
abbrev pub invariant-loop-why : goal.invariant-loop-why
invariant-loop-why g l =
    let tells = IsTrue g.D.Disk.tells in
    let before = g.D.Disk.world l.fn.disk in
    let after = g.D.Disk.world l.disk in
    let tables = l.tables.tables in
    record {
      stays : StaysAt g.D.Disk.tells tables before.seen.held l.fn.self (record l.self { now = None });
      memory : IsCaughtUp l.fn.self.floor (first_of l.self.memory) l.self.memory;
      read_sound : tells → PassSound tables before.seen.held l.fn.self.walks l.self.walks;
      moves : OnlyReads before after;
      left : blocks_left tables l.self.walks ≤ blocks_left tables l.fn.self.walks;
      spent : tells → IsSoundMerge l.fn.self tables before.seen.held → after.seen.reads + blocks_left tables l.self.walks ≤ before.seen.reads + blocks_left tables l.fn.self.walks;
      counted : tells → after.seen.reads + next_blocks l.fn.self.walks ≡ before.seen.reads + next_blocks l.self.walks;
      bounded : tells → IsSoundMerge l.fn.self tables before.seen.held → (wanted l.self tables ≤ wanted l.fn.self tables) × ReadMoves (wanted l.fn.self tables - wanted l.self tables) before after;
    }

-- each time a block was read
abbrev pub decreases-loop-why : goal.decreases-loop-why
decreases-loop-why g l = blocks_left l.tables.tables l.self.walks
