-- Why a slice is refused, and what an image shows of it, whatever the device is.
use Rattle.std.proofs.Common.{◌≡◌, ◌≢◌, inl, inr, ◌≤◌, ◌+◌, ℕ, Bool, true, false, List, refl, sym, subst, arith}
use Rattle.std.specs.Prelude.{None, IfErr, MatchResult, IsTrue}
use Rattle.disk_trait.specs.Image.{Image}
use Rattle.disk_trait.specs.World.{World, WriteMoves}
use Rattle.disk_trait.specs.declared.fault.Op.{Op}
use Rattle.disk_trait.specs.declared.fault.Op.TheVariants as op
use Rattle.disk_trait.proofs.Calls.{moves_joined, moves_of_write}
use Rattle.level_merge.specs.SliceSteps.{FailsBeforeWrite, IsSliceFault}
use Rattle.level_merge.specs.declared.fault.JobFault.{JobFault}
use Rattle.level_merge.specs.declared.fault.JobFault.TheVariants as fault
use Rattle.manifest_model.specs.Version.{Version}
use Rattle.table_file.specs.Opened.{Opened}
use Rattle.table_file.specs.declared.fault.TableFault.TheVariants as table
use Rattle.store_core.specs.Answers.{is_write}
use Rattle.store_core.specs.Install.{IsInstallRefusal}
use Rattle.store_core.specs.StoreValue.{StoreValue}
use Rattle.store_core.specs.Scans.{IsScanShown}
use Rattle.store_core.specs.Tending.{IsTended, IsTendRefusal, SomeMoves, answer_to}
use Rattle.store_core.specs.declared.error.StoreError.{StoreError}
use Rattle.store_core.specs.declared.error.StoreError.TheVariants as error
use Rattle.store_core.proofs.ScanCauses.{told_block}

not_read_writes : (o : Op) → o ≢ op.Read → is_write o ≡ true
not_read_writes op.Read other = absurd (other refl)
not_read_writes op.Write other = refl
not_read_writes op.Sync other = refl

module _ (tells : Bool) (tables : List Opened) (which : List ℕ) (a b : World) where
  -- a slice of the merge was refused
  pub slice_refusal : (before after : StoreValue) (epoch : ℕ) (why : JobFault) → after.job ≡ None → IsSliceFault tells tables which a b why
      → MatchResult (answer_to why) (IsTended before after a b) (IsTendRefusal false epoch a b)
  slice_refusal before after epoch fault.Memory gone is = refl
  slice_refusal before after epoch (fault.Device cause) gone (inl read) = (refl, inl read)
  slice_refusal before after epoch (fault.Device cause) gone (inr write) = (refl, inr (not_read_writes cause.op write.0, write.1))
  slice_refusal before after epoch (fault.Damaged damage) gone is = (refl, is.0)
  slice_refusal before after epoch (fault.Full need gap) gone is = (gone, is)

  pub slice_shown : (why : JobFault) → IsTrue tells → IsSliceFault tells tables which a b why → FailsBeforeWrite a b why → IfErr (answer_to why) (IsScanShown tables b.seen.held)
  slice_shown fault.Memory t is same = tt
  slice_shown (fault.Device cause) t is same = tt
  slice_shown (fault.Damaged damage) t is same =
      subst (λ (image : Image). IsScanShown tables image (error.Damaged damage)) (sym same) (told_block tables which a.seen.held (table.Damaged damage) (is.1 t))
  slice_shown (fault.Full need gap) t is same = tt

-- its install was refused
module _ (v : Version) (a b c : World) (writes : a.seen.write_faults ≤ b.seen.write_faults) where
  pub install_refusal : (why : StoreError) → IsInstallRefusal v b c why → IsTendRefusal false v.epoch a c why
  install_refusal error.Memory is = refl
  install_refusal (error.Device cause) is = (refl, inr (is.0, omega (arith, writes, is.1)))
  install_refusal error.Stopped is = absurd is
  install_refusal (error.Limit limit) is = (refl, is.0, is.1)
  install_refusal (error.Full need gap) is = absurd is
  install_refusal (error.Damaged damage) is = absurd is
  install_refusal error.NotAStore is = absurd is
  install_refusal error.AlreadyAStore is = absurd is
  install_refusal (error.BadSettings field) is = absurd is

  pub install_shown : (tables : List Opened) (image : Image) (why : StoreError) → IsInstallRefusal v b c why → IsScanShown tables image why
  install_shown tables image error.Memory is = tt
  install_shown tables image (error.Device cause) is = tt
  install_shown tables image error.Stopped is = tt
  install_shown tables image (error.Limit limit) is = tt
  install_shown tables image (error.Full need gap) is = tt
  install_shown tables image (error.Damaged damage) is = absurd is
  install_shown tables image error.NotAStore is = tt
  install_shown tables image error.AlreadyAStore is = tt
  install_shown tables image (error.BadSettings field) is = tt

-- a slice and then an install
pub both_moved : (bytes : ℕ) (a b c : World) → SomeMoves bytes a b → WriteMoves 0 bytes b c → SomeMoves bytes a c
both_moved bytes a b c slice install = (slice.0 + 0, moves_joined 0 bytes slice.0 0 a b c slice.1 (moves_of_write 0 bytes 0 b c install))
