-- What the slices of a compaction do to the device, and why one is refused, whatever the device is.
use Rattle.std.proofs.Common.{◌≡◌, inl, inr, ◌+◌, ◌*◌, ℕ, Bool, List, sym, subst, arith}
use Rattle.std.specs.Prelude.{IfErr, IsTrue, MatchResult, Result, Ok, Err}
use Rattle.std.specs.Result.{IsErrAnd}
use Rattle.block_model.specs.Places.{byte_of_page, pages_of}
use Rattle.disk_trait.specs.Image.{Image}
use Rattle.disk_trait.specs.World.{World}
use Rattle.disk_trait.proofs.Calls.{moves_joined, moves_none, moves_of_read, moves_of_write}
use Rattle.extent_map.specs.Taken.{Taken}
use Rattle.filter_api.specs.Spellings.{Spelling}
use Rattle.filter_model.specs.Leaves.{Leaf}
use Rattle.level_merge.specs.JobValue.{JobValue}
use Rattle.level_merge.specs.SliceSteps.{FailsBeforeWrite, IsSliceFault, SliceMoves}
use Rattle.level_merge.specs.declared.fault.JobFault.{JobFault}
use Rattle.level_merge.specs.declared.fault.JobFault.TheVariants as job
use Rattle.table_file.specs.Opened.{Opened}
use Rattle.table_file.specs.declared.fault.TableFault.TheVariants as table
use Rattle.store_core.specs.Compacting.{IsWritingFault}
use Rattle.store_core.specs.Faults.{of_job_fault}
use Rattle.store_core.specs.Scans.{IsScanShown}
use Rattle.store_core.specs.Tending.{SomeMoves}
use Rattle.store_core.specs.declared.error.StoreError.TheVariants as error
use Rattle.store_core.proofs.CompactSlices.{is_write_op, later_rose}
use Rattle.store_core.proofs.Moved.{moves_widened}
use Rattle.store_core.proofs.ScanCauses.{told_block}

pub none_moved : (bytes : ℕ) (a : World) → SomeMoves bytes a a
none_moved bytes a = (0, moves_of_write 0 bytes 0 a a (moves_none 0 bytes a))

pub moved_then : (bytes : ℕ) (a b c : World) → SomeMoves bytes a b → SomeMoves bytes b c → SomeMoves bytes a c
moved_then bytes a b c first second = (first.0 + second.0, moves_joined 0 bytes first.0 second.0 a b c first.1 second.1)

module _ (spelling : Spelling) (built_cutoff : ℕ → List Leaf → ℕ) (pages : ℕ) (old new : JobValue) (free now : Taken) (a w x : World) (same : free.pages ≡ pages) (so_far : SomeMoves (4096 * pages) a w) where
  one_moved : SliceMoves spelling built_cutoff old new free now w x → SomeMoves (4096 * pages) w x
  one_moved (inl is) = (is.2.0, moves_of_read 0 (4096 * pages) is.2.0 w x is.2.1)
  one_moved (inr is) =
      let row = is.0 in
      let most = is.1 in
      let within = is.2.on_device.to in
      (most, moves_widened (byte_of_page row.first_page) (4096 * pages_of row) 0 (4096 * pages) most most w x (omega arith) (omega (arith, within, same)) (omega arith) is.3)

  pub slice_moved : SliceMoves spelling built_cutoff old new free now w x → SomeMoves (4096 * pages) a x
  slice_moved moves = moved_then (4096 * pages) a w x so_far (one_moved moves)

module _ (tells : Bool) (tables : List Opened) (which : List ℕ) (bytes : ℕ) (a w x : World) (so_far : SomeMoves bytes a w) where
  pub writing_fault : (why : JobFault) → IsSliceFault tells tables which w x why → IsWritingFault a x why
  writing_fault job.Memory is = tt
  writing_fault (job.Device cause) (inl read) = inl (read.0, later_rose a.seen.read_faults w.seen.read_faults x.seen.read_faults so_far.1.read_faults read.1)
  writing_fault (job.Device cause) (inr write) = inr (is_write_op cause.op write.0, later_rose a.seen.write_faults w.seen.write_faults x.seen.write_faults so_far.1.write_faults write.1)
  writing_fault (job.Damaged damage) is = is.0
  writing_fault (job.Full need gap) is = is

  pub writing_shown : (why : JobFault) → IsTrue tells → IsSliceFault tells tables which w x why → FailsBeforeWrite w x why → IsScanShown tables x.seen.held (of_job_fault why)
  writing_shown job.Memory t is same = tt
  writing_shown (job.Device cause) t is same = tt
  writing_shown (job.Damaged damage) t is same = subst (λ (image : Image). IsScanShown tables image (error.Damaged damage)) (sym same) (told_block tables which w.seen.held (table.Damaged damage) (is.1 t))
  writing_shown (job.Full need gap) t is same = tt

-- ---- a refusal that a `?` passes on

pub refused_so : {T : Type 0} (r : Result T JobFault) (f : JobFault) (P : T → Type 0) (Q : JobFault → Type 0) → IsErrAnd r (λ (why : JobFault). why ≡ f) → Q f → MatchResult r P Q
refused_so (Ok x) f P Q is why = absurd is
refused_so (Err e) f P Q is why = subst Q (sym is) why

pub fails_so : {T : Type 0} (r : Result T JobFault) (f : JobFault) (Q : JobFault → Type 0) → IsErrAnd r (λ (why : JobFault). why ≡ f) → Q f → IfErr r Q
fails_so (Ok x) f Q is why = absurd is
fails_so (Err e) f Q is why = subst Q (sym is) why
