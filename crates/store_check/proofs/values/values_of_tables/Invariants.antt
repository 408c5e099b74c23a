use Rattle.std.proofs.Common.{◌≡◌, ◌≤◌, ◌*◌, ◌^◌, IsTrue, List, take}
use Rattle.std.specs.List.{sum_by}
use Rattle.filter_api.specs.Spellings.{Spelling}
use Rattle.image_model.specs.Tables.{AreTablesOf}
use Rattle.store_check.proofs.values.values_of_tables.Given as goal
use Rattle.store_check.specs.Causes.{OnlyReads}
use Rattle.store_check.specs.Values.{table_values}
use Rattle.table_model.specs.Tables.{Table}

-- the values of the tables of the rows so far are counted
abbrev pub invariant-loop-row : goal.invariant-loop-row
invariant-loop-row g l =
    let image = (g.D.Disk.world l.fn.disk).seen.held in
    record {
      sum : (spelling : Spelling) (tables : List Table) → IsTrue g.D.Disk.tells → AreTablesOf spelling l.rows tables image
          → l.values ≡ sum_by table_values (take l.row-index tables);
      most : l.values ≤ 2 ^ 40 * l.row-index;
      moves : OnlyReads (g.D.Disk.world l.fn.disk) (g.D.Disk.world l.disk);
    }
