use Rattle.std.proofs.Common.{◌≡◌, ◌≤◌, ◌*◌, IsTrue, take, length}
use Rattle.disk_trait.specs.World.{ReadMoves}
use Rattle.store_core.specs.StoreValue.{rows_of}
use Rattle.store_core.specs.Opening.{AreOpened}
use Rattle.store_core.proofs.opening.open_tables.Given as goal

-- the tables of the rows so far are open, and there is room for the others
abbrev pub invariant-loop-row : goal.invariant-loop-row
invariant-loop-row g l = record {
  rows : rows_of l.tables.tables ≡ take l.row-index l.rows;
  room : length l.rows ≤ l.tables.room;
  opened : IsTrue g.D.Disk.tells → AreOpened g.F.RangeFilter.spelling l.tables.tables (g.D.Disk.world l.fn.disk).seen.held;
  moves : ReadMoves (2 * l.row-index) (g.D.Disk.world l.fn.disk) (g.D.Disk.world l.disk);
}
