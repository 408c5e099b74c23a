use Rattle.std.proofs.Common.{◌≡◌, ◌+◌, IsTrue, length}
use Rattle.merge_rows.specs.Merges.{rows_left}
use Rattle.merge_rows.specs.Steps.{AreWalksIn, IsSoundMerge, stands}
use Rattle.store_check.specs.Causes.{OnlyReads}
use Rattle.store_check.proofs.live.live_pairs.Given as goal

-- a given number of rows were given, and the others are still to come
abbrev pub invariant-loop-live : goal.invariant-loop-live
invariant-loop-live g l =
    let image = (g.D.Disk.world l.fn.disk).seen.held in
    let tables = l.tables.tables in
    record {
      walks : AreWalksIn tables (stands l.rows.walks);
      sound : IsTrue g.D.Disk.tells → IsSoundMerge l.initial.rows tables image → IsSoundMerge l.rows tables image;
      rows : IsTrue g.D.Disk.tells → IsSoundMerge l.initial.rows tables image → l.live + length (rows_left l.rows tables image) ≡ length (rows_left l.initial.rows tables image);
      moves : OnlyReads (g.D.Disk.world l.fn.disk) (g.D.Disk.world l.disk);
    }
