-- A fault of a block that was read is told.
use Rattle.std.proofs.Common.{List}
use Rattle.disk_trait.specs.Image.{Image}
use Rattle.map_model.specs.SortedMap.{Bytes}
use Rattle.store_core.specs.Faults.{of_table_fault}
use Rattle.store_core.specs.Getting.{IsShown}
use Rattle.store_search.specs.Searching.{IsFaultIn}
use Rattle.table_file.specs.Opened.{Opened}
use Rattle.table_file.specs.declared.fault.TableFault.{TableFault}
use Rattle.table_file.specs.declared.fault.TableFault.TheVariants as table

-- what is told is what is shown
pub told_fault : (tables : List Opened) (key : Bytes) (image : Image) (f : TableFault) → IsFaultIn tables key image f → IsShown tables key image (of_table_fault f)
told_fault tables key image table.Memory is = tt
told_fault tables key image (table.Device cause) is = tt
told_fault tables key image (table.Damaged d) is = is
