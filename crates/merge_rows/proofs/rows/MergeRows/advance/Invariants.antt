use Rattle.std.proofs.Common.{◌≡◌, ◌+◌, ◌-◌, ◌≤◌, false}
use Rattle.std.specs.Prelude.{IsTrue}
use Rattle.disk_trait.specs.World.{ReadMoves}
use Rattle.key_base.specs.Limits.{max_key_bytes}
use Rattle.merge_rows.specs.Merges.{rows_left}
use Rattle.merge_rows.specs.Reads.{OnlyReads, PassSound, blocks_left, next_blocks}
use Rattle.merge_rows.specs.Steps.{FloorRises, IsSoundMerge, SourcesStay}
use Rattle.merge_rows.proofs.Rank.{height, strings}
use Rattle.merge_rows.proofs.rows.MergeRows.advance.Given as goal

-- tombstones alone were passed, and none where they are rows
abbrev pub invariant-loop-why : goal.invariant-loop-why
invariant-loop-why g l =
    let tells = IsTrue g.D.Disk.tells in
    let before = g.D.Disk.world l.fn.disk in
    let after = g.D.Disk.world l.disk in
    record {
      stay : SourcesStay g.D.Disk.tells l.tables.tables before.seen.held l.fn.self l.self;
      rows : tells → IsSoundMerge l.fn.self l.tables.tables before.seen.held → rows_left l.self l.tables.tables before.seen.held ≡ rows_left l.fn.self l.tables.tables before.seen.held;
      rises : FloorRises l.fn.self.floor l.self.floor;
      read_sound : tells → PassSound l.tables.tables before.seen.held l.fn.self.walks l.self.walks;
      moves : OnlyReads before after;
      left : blocks_left l.tables.tables l.self.walks ≤ blocks_left l.tables.tables l.fn.self.walks;
      spent : tells → IsSoundMerge l.fn.self l.tables.tables before.seen.held → after.seen.reads + blocks_left l.tables.tables l.self.walks ≤ before.seen.reads + blocks_left l.tables.tables l.fn.self.walks;
      counted : tells → after.seen.reads + next_blocks l.fn.self.walks ≡ before.seen.reads + next_blocks l.self.walks;
      first : l.fn.self.drops ≡ false → (l.self ≡ l.fn.self) × ReadMoves 0 before after;
    }

-- keys rise, and there are not more of them than this
abbrev pub decreases-loop-why : goal.decreases-loop-why
decreases-loop-why g l = strings max_key_bytes + 1 - height max_key_bytes l.self.floor
