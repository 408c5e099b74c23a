use Rattle.std.proofs.Common.{◌≡◌, ◌+◌, ◌≤◌}
use Rattle.std.specs.Prelude.{IsTrue}
use Rattle.merge_rows.specs.Merges.{blocks_in, left_above, numbered}
use Rattle.merge_rows.specs.Reads.{OnlyReads, PassesSound, blocks_left_in, wanted_block_of}
use Rattle.merge_rows.specs.Steps.{IsSoundWalk}
use Rattle.merge_rows.proofs.table_source.TableSource.catch_up.Given as goal

-- above the floor the same is left, and as many blocks were read as are needed no more
abbrev pub invariant-loop-self : goal.invariant-loop-self
invariant-loop-self g l =
    let tells = IsTrue g.D.Disk.tells in
    let before = g.D.Disk.world l.fn.disk in
    let after = g.D.Disk.world l.disk in
    let tables = l.tables.tables in
    let old = l.fn.self in
    let new = l.self in
    record {
      number : new.number ≡ old.number;
      room : new.walk.room ≡ old.walk.room;
      same : tells → left_above l.floor tables before.seen.held new ≡ left_above l.floor tables before.seen.held old;
      sound : tells → IsSoundWalk l.floor old.walk (blocks_in (numbered tables old.number) before.seen.held)
          → IsSoundWalk l.floor new.walk (blocks_in (numbered tables old.number) before.seen.held);
      read_sound : tells → PassesSound tables before.seen.held old new;
      moves : OnlyReads before after;
      left : blocks_left_in tables new ≤ blocks_left_in tables old;
      counted : tells → after.seen.reads + old.walk.block ≡ before.seen.reads + new.walk.block;
      bounded : tells → IsSoundWalk l.floor old.walk (blocks_in (numbered tables old.number) before.seen.held)
          → after.seen.reads + wanted_block_of l.floor tables new ≤ before.seen.reads + wanted_block_of l.floor tables old;
    }

-- each time a block was read
abbrev pub decreases-loop-self : goal.decreases-loop-self
decreases-loop-self g l = blocks_left_in l.tables.tables l.self
