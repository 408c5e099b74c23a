use Rattle.std.specs.Prelude.{IsTrue}
use Rattle.disk_trait.specs.World.{ReadMoves}
use Rattle.merge_rows.proofs.FirstFills.{Went}
use Rattle.merge_rows.proofs.table_source.wants_any.Given as goal

-- the walks before this one needed no block, and the others are where they stood
abbrev pub invariant-loop-i : goal.invariant-loop-i
invariant-loop-i g l = record {
  went : Went (IsTrue g.D.Disk.tells) l.floor l.tables.tables (g.D.Disk.world l.fn.disk).seen.held l.i l.fn.walks l.walks;
  moves : ReadMoves 0 (g.D.Disk.world l.fn.disk) (g.D.Disk.world l.disk);
}
