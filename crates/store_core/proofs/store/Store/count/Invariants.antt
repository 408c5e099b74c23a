use Rattle.std.proofs.Common.{◌≡◌, ◌≤◌, ◌+◌, ◌-◌, length, drop}
use Rattle.std.specs.Prelude.{IsTrue, Some}
use Rattle.map_model.specs.SortedMap.{Map}
use Rattle.merge_rows.specs.Reads.{OnlyReads, PassSound}
use Rattle.store_core.specs.Scans.{GoesOn, StillComes, blocks_to_come, opened_tables}
use Rattle.store_core.proofs.store.Store.count.Given as goal

-- a given number of the pairs were given, and the others are still to come
abbrev pub invariant-loop-scan : goal.invariant-loop-scan
invariant-loop-scan g l =
    let before = g.D.Disk.world l.fn.disk in
    let after = g.D.Disk.world l.disk in
    record {
      shows : (m : Map) → IsTrue g.D.Disk.tells → StillComes g.F.RangeFilter.spelling l.initial.scan m before.seen.held → StillComes g.F.RangeFilter.spelling l.scan (drop l.count m) before.seen.held;
      within : (m : Map) → IsTrue g.D.Disk.tells → StillComes g.F.RangeFilter.spelling l.initial.scan m before.seen.held → l.count ≤ length m;
      spent : (m : Map) → IsTrue g.D.Disk.tells → StillComes g.F.RangeFilter.spelling l.initial.scan m before.seen.held → after.seen.reads + blocks_to_come l.scan ≤ before.seen.reads + blocks_to_come l.initial.scan;
      left : l.scan.left ≡ Some (18446744073709551615 - l.count);
      few : l.count ≤ 18446744073709551615;
      tables : l.scan.tables ≡ l.initial.scan.tables;
      high : l.scan.high ≡ l.initial.scan.high;
      passes : IsTrue g.D.Disk.tells → PassSound l.initial.scan.tables before.seen.held l.initial.scan.merge.walks l.scan.merge.walks;
      goes : IsTrue g.D.Disk.tells → GoesOn l.initial.scan.tables before.seen.held l.initial.scan.merge l.scan.merge;
      sources : opened_tables l.scan ≡ opened_tables l.initial.scan;
      moves : OnlyReads before after;
    }

-- fewer pairs may come
abbrev pub decreases-loop-scan : goal.decreases-loop-scan
decreases-loop-scan g l = 18446744073709551615 - l.count
