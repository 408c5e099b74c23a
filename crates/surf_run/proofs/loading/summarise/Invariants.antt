use Rattle.std.proofs.Common.{◌≡◌, ◌≤◌, length, take, drop}
use Rattle.std.specs.Prelude.{IsTrue}
use Rattle.load_gen.specs.Summary.{summary_of}
use Rattle.map_model.specs.SortedMap.{Map}
use Rattle.merge_rows.specs.Reads.{OnlyReads}
use Rattle.store_core.specs.Scans.{StillComes, opened_tables}
use Rattle.surf_run.proofs.loading.summarise.Given as goal

-- a given number of pairs are summed, and the others are still to come
abbrev pub invariant-loop : goal.invariant-loop
invariant-loop g l =
    let before = g.W.Disk.world l.fn.out in
    let after = g.W.Disk.world l.out in
    record {
      shows : (m : Map) → IsTrue g.W.Disk.tells → StillComes g.F.RangeFilter.spelling l.initial.scan m before.seen.held → StillComes g.F.RangeFilter.spelling l.scan (drop l.counter m) before.seen.held;
      within : (m : Map) → IsTrue g.W.Disk.tells → StillComes g.F.RangeFilter.spelling l.initial.scan m before.seen.held → l.counter ≤ length m;
      summed : (m : Map) → IsTrue g.W.Disk.tells → StillComes g.F.RangeFilter.spelling l.initial.scan m before.seen.held → l.summary ≡ summary_of (take l.counter m);
      live : l.summary.live ≡ l.counter;
      tables : l.scan.tables ≡ l.initial.scan.tables;
      opened : opened_tables l.scan ≡ opened_tables l.initial.scan;
      moves : OnlyReads before after;
    }
