use Rattle.std.proofs.Common.{◌≡◌, ◌⊎◌, true, false, length}
use Rattle.std.specs.Prelude.{IsTrue}
use Rattle.disk_trait.specs.World.{ReadMoves}
use Rattle.merge_rows.specs.Merges.{with_hand}
use Rattle.merge_rows.specs.Reads.{is_used_up}
use Rattle.merge_rows.specs.Rows.{above_floor}
use Rattle.merge_rows.specs.Steps.{IsSoundWalk}
use Rattle.table_file.specs.Walks.{blocks_on, is_due, to_come}
use Rattle.merge_rows.proofs.table_source.TableSource.pass_over.Given as goal

-- Nothing above the floor was passed over, and no block was read. Where the walk has moved, none was due, and on a sound
-- table an entry above the floor is at hand.
abbrev pub invariant-loop-self : goal.invariant-loop-self
invariant-loop-self g l =
    let tells = IsTrue g.D.Disk.tells in
    let blocks = blocks_on l.table (g.D.Disk.world l.fn.disk).seen.held in
    let old = l.fn.self.walk in
    let now = l.self.walk in
    record {
      number : l.self.number ≡ l.fn.self.number;
      room : now.room ≡ old.room;
      block : now.block ≡ old.block;
      same : tells → above_floor l.floor (with_hand now.now (to_come now blocks)) ≡ above_floor l.floor (with_hand old.now (to_come old blocks));
      sound : tells → IsSoundWalk l.floor old blocks → IsSoundWalk l.floor now blocks;
      moved :
          (l.self ≡ l.fn.self)
          ⊎ ((is_used_up l.floor old.now ≡ true) × (is_due old (length l.table.index.rows) ≡ false) × (tells → IsSoundWalk l.floor old blocks → is_used_up l.floor now.now ≡ false));
      moves : ReadMoves 0 (g.D.Disk.world l.fn.disk) (g.D.Disk.world l.disk);
    }

abbrev pub decreases-loop-self : goal.decreases-loop-self
decreases-loop-self g l = length l.self.walk.later
