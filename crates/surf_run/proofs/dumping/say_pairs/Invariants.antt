use Rattle.std.proofs.Common.{◌≡◌, ◌≤◌, ◌<◌, ◌+◌, ◌++◌, length, take, drop}
use Rattle.std.specs.Prelude.{IsTrue, None}
use Rattle.map_model.specs.SortedMap.{Map}
use Rattle.merge_rows.specs.Reads.{PassSound}
use Rattle.store_commands.specs.Puts.{puts_text}
use Rattle.store_core.specs.Scans.{StillComes}
use Rattle.surf_run.specs.Checks.{ChangesNothing}
use Rattle.surf_run.proofs.dumping.say_pairs.Given as goal

-- a given number of the pairs were said or wait to be said, and the others are still to come
abbrev pub invariant-loop : goal.invariant-loop
invariant-loop g l =
    let a = g.W.Disk.world l.fn.out in
    let w = g.W.Disk.world l.out in
    record {
      shows : (m : Map) → IsTrue g.W.Disk.tells → StillComes g.F.RangeFilter.spelling l.initial.scan m a.seen.held → StillComes g.F.RangeFilter.spelling l.scan (drop l.counter m) a.seen.held;
      within : (m : Map) → IsTrue g.W.Disk.tells → StillComes g.F.RangeFilter.spelling l.initial.scan m a.seen.held → l.counter ≤ length m;
      said : (m : Map) → IsTrue g.W.Disk.tells → IsTrue g.W.Outside.tells_output → StillComes g.F.RangeFilter.spelling l.initial.scan m a.seen.held
          → w.beside.said ++ take l.used l.buffer ≡ a.beside.said ++ puts_text (take l.counter m);
      went : IsTrue g.W.Disk.tells → PassSound l.initial.scan.tables a.seen.held l.initial.scan.merge.walks l.scan.merge.walks;
      tables : l.scan.tables ≡ l.initial.scan.tables;
      high : l.scan.high ≡ l.initial.scan.high;
      left : l.initial.scan.left ≡ None → l.scan.left ≡ None;
      lines : IsTrue g.W.Outside.tells_output → l.counter + length a.beside.said ≤ length (w.beside.said ++ take l.used l.buffer);
      longer : length a.beside.said ≤ length w.beside.said;
      room : l.used < length l.buffer;
      changes : ChangesNothing a w;
    }
