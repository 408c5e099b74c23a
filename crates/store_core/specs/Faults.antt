-- What faults of the layers below are told as.
use Rattle.byte_fields.specs.declared.parts.Damage.TheVariants as damage
use Rattle.byte_fields.specs.declared.parts.Part.TheVariants as part
use Rattle.gate_log.specs.declared.fault.LogFault.{LogFault}
use Rattle.gate_log.specs.declared.fault.LogFault.TheVariants as log
use Rattle.level_merge.specs.declared.fault.JobFault.{JobFault}
use Rattle.level_merge.specs.declared.fault.JobFault.TheVariants as job
use Rattle.manifest.specs.declared.fault.ManifestFault.{ManifestFault}
use Rattle.manifest.specs.declared.fault.ManifestFault.TheVariants as manifest
use Rattle.table_file.specs.declared.fault.TableFault.{TableFault}
use Rattle.table_file.specs.declared.fault.TableFault.TheVariants as table
use Rattle.store_core.specs.declared.error.Limit.TheVariants as limit
use Rattle.store_core.specs.declared.error.StoreError.{StoreError}
use Rattle.store_core.specs.declared.error.StoreError.TheVariants as error

abbrev pub of_table_fault : TableFault → StoreError
of_table_fault table.Memory = error.Memory
of_table_fault (table.Device cause) = error.Device cause
of_table_fault (table.Damaged d) = error.Damaged d

abbrev pub of_manifest_fault : ManifestFault → StoreError
of_manifest_fault manifest.Memory = error.Memory
of_manifest_fault (manifest.Device cause) = error.Device cause
of_manifest_fault manifest.NotAStore = error.NotAStore
of_manifest_fault manifest.AlreadyAStore = error.AlreadyAStore
of_manifest_fault manifest.Epoch = error.Limit limit.Epoch
of_manifest_fault (manifest.Damaged d) = error.Damaged d

abbrev pub of_log_fault : LogFault → StoreError
of_log_fault log.Memory = error.Memory
of_log_fault (log.Device cause) = error.Device cause
of_log_fault (log.Shape at rule) = error.Damaged (damage.Shape part.Log at rule)

abbrev pub of_job_fault : JobFault → StoreError
of_job_fault job.Memory = error.Memory
of_job_fault (job.Device cause) = error.Device cause
of_job_fault (job.Damaged d) = error.Damaged d
of_job_fault (job.Full need gap) = error.Full need gap
