use Rattle.std.proofs.Common.{◌≡◌, ◌≤◌, ◌<◌, ◌-◌, ◌++◌, length, take, drop}
use Rattle.std.specs.Prelude.{IsTrue, Some}
use Rattle.map_model.specs.SortedMap.{Map}
use Rattle.store_core.specs.Scans.{StillComes, opened_tables}
use Rattle.surf_run.proofs.Ranges.{Walked, pairs_text}
use Rattle.surf_run.proofs.answers.range_line.Given as goal

-- a given number of the pairs were said or wait to be said, and the others are still to come
abbrev pub invariant-loop-out : goal.invariant-loop-out
invariant-loop-out g l =
    let a = g.W.Disk.world l.fn.out in
    let w = g.W.Disk.world l.out in
    record {
      shows : (m : Map) → IsTrue g.W.Disk.tells → StillComes g.F.RangeFilter.spelling l.initial.scan m a.seen.held → StillComes g.F.RangeFilter.spelling l.scan (drop l.count m) a.seen.held;
      within : (m : Map) → IsTrue g.W.Disk.tells → StillComes g.F.RangeFilter.spelling l.initial.scan m a.seen.held → l.count ≤ length m;
      said : (m : Map) → IsTrue g.W.Disk.tells → IsTrue g.W.Outside.tells_output → StillComes g.F.RangeFilter.spelling l.initial.scan m a.seen.held
          → w.beside.said ++ take l.used l.buffer ≡ a.beside.said ++ pairs_text (take l.count m);
      room : l.used < length l.buffer;
      left : l.scan.left ≡ Some (l.fn.most - l.count);
      few : l.count ≤ l.fn.most;
      tables : l.scan.tables ≡ l.initial.scan.tables;
      sources : opened_tables l.scan ≡ opened_tables l.initial.scan;
      walked : Walked a w;
    }

-- fewer pairs may come
abbrev pub decreases-loop-out : goal.decreases-loop-out
decreases-loop-out g l = l.fn.most - l.count
