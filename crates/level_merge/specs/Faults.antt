-- Why a merge slice is refused.
use Rattle.extent_map.specs.declared.extents.NoGap.{NoGap}
use Rattle.level_merge.specs.declared.fault.JobFault.{JobFault}
use Rattle.level_merge.specs.declared.fault.JobFault.TheVariants as job
use Rattle.table_file.specs.declared.fault.TableFault.{TableFault}
use Rattle.table_file.specs.declared.fault.TableFault.TheVariants as table

abbrev pub of_table_fault : TableFault → JobFault
of_table_fault table.Memory = job.Memory
of_table_fault (table.Device cause) = job.Device cause
of_table_fault (table.Damaged d) = job.Damaged d

abbrev pub of_gap : NoGap → JobFault
of_gap none = job.Full none.need none.largest
