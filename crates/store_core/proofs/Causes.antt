-- Why a call of opening or formatting failed, told as the store's error.
use Rattle.std.proofs.Common.{◌≡◌, inl, inr, ◌≤◌, ℕ, ap, arith}
use Rattle.byte_fields.specs.declared.parts.Row.{Row}
use Rattle.disk_trait.specs.Fault.{IsFaultOf, IsWriteThroughFault}
use Rattle.disk_trait.specs.World.{Rose, World}
use Rattle.disk_trait.specs.declared.fault.DiskFault.{DiskFault}
use Rattle.disk_trait.specs.declared.fault.Op.{Op}
use Rattle.disk_trait.specs.declared.fault.Op.TheVariants.{Read, Sync, Write}
use Rattle.gate_log.specs.Faults.{HasReadCause}
use Rattle.gate_log.specs.declared.fault.LogFault.{LogFault}
use Rattle.gate_log.specs.declared.fault.LogFault.TheVariants as log
use Rattle.manifest.specs.Causes.{HasFormatCause, HasLoadCause, HasLookCause}
use Rattle.manifest.specs.declared.fault.ManifestFault.{ManifestFault}
use Rattle.manifest.specs.declared.fault.ManifestFault.TheVariants as manifest
use Rattle.table_file.specs.Faults.{HasOpenCause}
use Rattle.table_file.specs.declared.fault.TableFault.{TableFault}
use Rattle.table_file.specs.declared.fault.TableFault.TheVariants as table
use Rattle.store_core.specs.Answers.{is_write}
use Rattle.store_core.specs.Faults.{of_log_fault, of_manifest_fault, of_table_fault}
use Rattle.store_core.specs.Formatting.{IsMakeFault}
use Rattle.store_search.specs.Searching.{ReadRose}
use Rattle.store_core.specs.Opening.{FaultRose, IsOpenFault, IsOpenRefusal}
use Rattle.store_core.specs.declared.error.StoreError.{StoreError}
use Rattle.store_core.specs.declared.error.StoreError.TheVariants as error

-- the kind of the call is that of its fault
op_is : (op : Op) (at : ℕ) (cause : DiskFault) → IsFaultOf op at cause → cause.op ≡ op
op_is op at cause is = ap (λ (f : DiskFault). f.op) is

pub sync_rose : (at : ℕ) (a b : World) (cause : DiskFault) → IsFaultOf Sync at cause → Rose a.seen.write_faults b.seen.write_faults → IsOpenRefusal a b (error.Device cause)
sync_rose at a b cause is rose = inr (ap is_write (op_is Sync at cause is), rose)

pub table_cause : (row : Row) (a b : World) (fault : TableFault) → HasOpenCause row a b fault → IsOpenFault a b (of_table_fault fault)
table_cause row a b table.Memory is = tt
table_cause row a b (table.Device cause) is = (elim is.0 [ inl index ↦ op_is Read _ cause index | inr filter ↦ op_is Read _ cause filter ], is.1)
table_cause row a b (table.Damaged d) is = tt

pub load_cause : (a b : World) (fault : ManifestFault) → HasLoadCause a b fault → IsOpenRefusal a b (of_manifest_fault fault)
load_cause a b manifest.Memory is = tt
load_cause a b (manifest.Device cause) is = inl (
  elim is.0 [
    | inl gate ↦ elim gate [ inl x ↦ op_is Read _ cause x | inr x ↦ op_is Read _ cause x ]
    | inr body ↦ elim body [
      | inl in_a ↦ elim in_a [ inl x ↦ op_is Read _ cause x | inr x ↦ op_is Read _ cause x ]
      | inr in_b ↦ elim in_b [ inl x ↦ op_is Read _ cause x | inr x ↦ op_is Read _ cause x ]
    ]
  ],
  is.1,
)
load_cause a b manifest.NotAStore is = tt
load_cause a b manifest.AlreadyAStore is = is
load_cause a b manifest.Epoch is = is
load_cause a b (manifest.Damaged d) is = tt

pub log_cause : (area : ℕ) (a b : World) (fault : LogFault) → HasReadCause area a b fault → IsOpenRefusal a b (of_log_fault fault)
log_cause area a b log.Memory is = tt
log_cause area a b (log.Device cause) is = inl (op_is Read _ cause is.0, is.1)
log_cause area a b (log.Shape at rule) is = tt

pub tables_cause : (a b : World) (why : StoreError) → IsOpenFault a b why → IsOpenRefusal a b why
tables_cause a b error.Memory is = tt
tables_cause a b (error.Device cause) is = inl is
tables_cause a b error.Stopped is = is
tables_cause a b (error.Limit limit) is = is
tables_cause a b (error.Full need gap) is = is
tables_cause a b (error.Damaged d) is = tt
tables_cause a b error.NotAStore is = tt
tables_cause a b error.AlreadyAStore is = is
tables_cause a b (error.BadSettings field) is = is

-- ---- formatting

pub through_rose : (at : ℕ) (a b : World) (cause : DiskFault) → IsWriteThroughFault at cause → Rose a.seen.write_faults b.seen.write_faults → FaultRose a b cause
through_rose at a b cause (inl is) rose = inr (ap is_write (op_is Write at cause is), rose)
through_rose at a b cause (inr is) rose = inr (ap is_write (op_is Sync 0 cause is), rose)

pub look_rose : (a b : World) (cause : DiskFault) → HasLookCause a b cause → FaultRose a b cause
look_rose a b cause (inl is) = inr (ap is_write (op_is Sync 0 cause is.0), is.1)
look_rose a b cause (inr is) = inl (elim is.0 [ inl x ↦ op_is Read _ cause x | inr x ↦ op_is Read _ cause x ], is.1)

pub format_cause : (a b : World) (fault : ManifestFault) → HasFormatCause a b fault → IsMakeFault a b fault
format_cause a b manifest.Memory is = tt
format_cause a b (manifest.Device cause) (inl look) = look_rose a b cause look
format_cause a b (manifest.Device cause) (inr is) = elim is.0 [ inl gate ↦ through_rose _ a b cause gate is.1 | inr body ↦ through_rose _ a b cause body is.1 ]
format_cause a b manifest.NotAStore is = is
format_cause a b manifest.AlreadyAStore is = tt
format_cause a b manifest.Epoch is = is
format_cause a b (manifest.Damaged d) is = is

-- ---- after other calls

module _ (a b c : World) (reads : a.seen.read_faults ≤ b.seen.read_faults) where
  read_rose : (cause : DiskFault) → ReadRose b c cause → ReadRose a c cause
  read_rose cause is = (is.0, omega (arith, reads, is.1))

  pub fault_behind : (why : StoreError) → IsOpenFault b c why → IsOpenFault a c why
  fault_behind error.Memory is = tt
  fault_behind (error.Device cause) is = read_rose cause is
  fault_behind error.Stopped is = is
  fault_behind (error.Limit limit) is = is
  fault_behind (error.Full need gap) is = is
  fault_behind (error.Damaged d) is = tt
  fault_behind error.NotAStore is = is
  fault_behind error.AlreadyAStore is = is
  fault_behind (error.BadSettings field) is = is

  module _ (writes : a.seen.write_faults ≤ b.seen.write_faults) where
    pub rose_behind : (cause : DiskFault) → FaultRose b c cause → FaultRose a c cause
    rose_behind cause (inl is) = inl (read_rose cause is)
    rose_behind cause (inr is) = inr (is.0, omega (arith, writes, is.1))

    pub refusal_behind : (why : StoreError) → IsOpenRefusal b c why → IsOpenRefusal a c why
    refusal_behind error.Memory is = tt
    refusal_behind (error.Device cause) is = rose_behind cause is
    refusal_behind error.Stopped is = is
    refusal_behind (error.Limit limit) is = is
    refusal_behind (error.Full need gap) is = is
    refusal_behind (error.Damaged d) is = tt
    refusal_behind error.NotAStore is = tt
    refusal_behind error.AlreadyAStore is = is
    refusal_behind (error.BadSettings field) is = is

    pub make_behind : (fault : ManifestFault) → IsMakeFault b c fault → IsMakeFault a c fault
    make_behind manifest.Memory is = tt
    make_behind (manifest.Device cause) is = rose_behind cause is
    make_behind manifest.NotAStore is = is
    make_behind manifest.AlreadyAStore is = tt
    make_behind manifest.Epoch is = is
    make_behind (manifest.Damaged d) is = is
