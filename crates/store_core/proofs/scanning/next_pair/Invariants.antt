use Rattle.std.proofs.Common.{◌+◌, ◌-◌}
use Rattle.std.specs.Option.{option_map}
use Rattle.std.specs.Prelude.{IsTrue}
use Rattle.key_base.specs.Limits.{max_key_bytes}
use Rattle.merge_rows.proofs.Rank.{height, strings}
use Rattle.merge_rows.specs.Reads.{OnlyReads, PassSound}
use Rattle.store_core.proofs.ScanSteps.{IsUnderWay}
use Rattle.store_core.specs.Scans.{GoesOn}
use Rattle.store_core.proofs.scanning.next_pair.Given as goal

-- tombstones alone were passed over
abbrev pub invariant-loop-rows : goal.invariant-loop-rows
invariant-loop-rows g l =
    let before = g.D.Disk.world l.fn.disk in
    let after = g.D.Disk.world l.disk in
    record {
      way : IsUnderWay g.D.Disk.tells before.seen.held l.tables.tables (option_map (λ v. v.items) l.high) l.fn.rows l.rows before.seen.reads after.seen.reads;
      passes : IsTrue g.D.Disk.tells → PassSound l.tables.tables before.seen.held l.fn.rows.merge.walks l.rows.merge.walks;
      goes : IsTrue g.D.Disk.tells → GoesOn l.tables.tables before.seen.held l.fn.rows.merge l.rows.merge;
      moves : OnlyReads before after;
    }

-- keys rise, and there are not more of them than this
abbrev pub decreases-loop-rows : goal.decreases-loop-rows
decreases-loop-rows g l = strings max_key_bytes + 1 - height max_key_bytes l.rows.merge.floor
