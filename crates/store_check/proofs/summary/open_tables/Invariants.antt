use Rattle.std.proofs.Common.{◌≡◌, ◌≤◌, ◌*◌, IsTrue, List, take, length}
use Rattle.disk_trait.specs.World.{ReadMoves}
use Rattle.image_model.specs.Tables.{AreTablesOf}
use Rattle.store_check.specs.Summaries.{AreTablesThere}
use Rattle.table_model.specs.Tables.{Table}
use Rattle.store_check.proofs.summary.open_tables.Given as goal

-- the tables of the rows so far are open, and there is room for the others
abbrev pub invariant-loop-row : goal.invariant-loop-row
invariant-loop-row g l =
    let image = (g.D.Disk.world l.fn.disk).seen.held in
    record {
      many : length l.tables.tables ≡ l.row-index;
      room : length l.rows ≤ l.tables.room;
      there : (tables : List Table) → IsTrue g.D.Disk.tells → AreTablesOf g.F.RangeFilter.spelling l.rows tables image
          → AreTablesThere g.F.RangeFilter.spelling l.tables.tables (take l.row-index tables) image;
      moves : ReadMoves (2 * l.row-index) (g.D.Disk.world l.fn.disk) (g.D.Disk.world l.disk);
    }
