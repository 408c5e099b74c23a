-- Why an install of a merge is refused, whatever the device is, and which epoch is left for it.
use Rattle.std.proofs.Common.{◌≡◌, ◌≢◌, inl, inr, ◌+◌, ◌*◌, ◌<◌, ◌≤◌, ◌∙◌, ◌^◌, ℕ, List, length, true, refl, sym, ap, subst, arith}
use Rattle.std.specs.Prelude.{Result, Ok, Err}
use Rattle.disk_trait.specs.Fault.{IsWriteThroughFault}
use Rattle.disk_trait.proofs.Calls.{moves_wider}
use Rattle.disk_trait.specs.World.{World, WriteMoves}
use Rattle.disk_trait.specs.declared.fault.DiskFault.{DiskFault}
use Rattle.key_base.specs.Limits.{last_epoch}
use Rattle.manifest.specs.Manifest.{Manifest, other_place}
use Rattle.manifest.specs.Causes.{HasInstallCause, IsSlotFault}
use Rattle.manifest.specs.declared.fault.ManifestFault.{ManifestFault}
use Rattle.manifest.specs.declared.fault.ManifestFault.TheVariants as fault
use Rattle.manifest_model.specs.Laws.{IsVersion}
use Rattle.manifest_model.specs.Version.{Version}
use Rattle.table_file.specs.Opened.{Opened}
use Rattle.store_core.specs.Answers.{is_write}
use Rattle.store_core.specs.Faults.{of_manifest_fault}
use Rattle.store_core.specs.Install.{IsInstallRefusal, others_in}
use Rattle.store_core.specs.declared.error.StoreError.{StoreError}

pub below_last : (n : ℕ) → n < 2 ^ 64 → n ≢ last_epoch → n < last_epoch
unfolding last_epoch
below_last n bound other = omega (arith, bound, other)

pub through_writes : (at : ℕ) (cause : DiskFault) → IsWriteThroughFault at cause → is_write cause.op ≡ true
through_writes at cause (inl is) = ap (λ (x : DiskFault). is_write x.op) is
through_writes at cause (inr is) = ap (λ (x : DiskFault). is_write x.op) is

pub slot_writes : (slot : ℕ) (cause : DiskFault) → IsSlotFault slot cause → is_write cause.op ≡ true
slot_writes slot cause (inl is) = through_writes slot cause is
slot_writes slot cause (inr is) = through_writes _ cause is

module _ (v : Version) (slot : ℕ) (a b : World) where
  refused_by : (f : ManifestFault) → HasInstallCause slot a b f → (f ≡ fault.Epoch → v.epoch ≡ last_epoch) → (f ≢ fault.Epoch → v.epoch < last_epoch) → IsInstallRefusal v a b (of_manifest_fault f)
  refused_by fault.Memory cause last below = tt
  refused_by (fault.Device f) cause last below = (slot_writes slot f cause.0, cause.1, below (λ never. absurd cc))
  refused_by fault.NotAStore cause last below = absurd cause
  refused_by fault.AlreadyAStore cause last below = absurd cause
  refused_by fault.Epoch cause last below = (refl, last refl)
  refused_by (fault.Damaged damage) cause last below = absurd cause

  pub install_is_refused : (f : ManifestFault) (x : StoreError) → x ≡ of_manifest_fault f → HasInstallCause slot a b f → (f ≡ fault.Epoch → v.epoch ≡ last_epoch) → (f ≢ fault.Epoch → v.epoch < last_epoch)
      → IsInstallRefusal v a b x
  install_is_refused f x is cause last below = subst (IsInstallRefusal v a b) (sym is) (refused_by f cause last below)

pub one_fault : {T : Type 0} (r : Result T ManifestFault) (f g : ManifestFault) → r ≡ Err f → r ≡ Err g → f ≡ g
one_fault r f g first second = let both = sym first ∙ second in cc

pub no_fault : {T E : Type 0} (x : T) (e : E) → Ok x ≡ Err e → ⊥
no_fault x e is = cc

-- an install writes within the device
pub moves_within : (m : Manifest) (a b : World) → m.slot ≤ 1 → IsVersion m.version → WriteMoves (other_place m.slot) 131072 a b → WriteMoves 0 (4096 * m.version.pages) a b
moves_within m a b slot is moves = moves_wider (other_place m.slot) 131072 0 (4096 * m.version.pages) a b (omega arith) (omega (arith, slot, is.some_pages)) moves

-- with room for its tables beside all others there is room for them beside those that it does not read
pub room_for : (which : List ℕ) (tables again : List Opened) (made asked room : ℕ) → again ≡ tables → length (others_in which tables) + length which ≤ length tables → asked ≡ made → length tables + asked ≤ room
    → length (others_in which again) + made ≤ room
room_for which tables again made asked room same few asked_is enough =
    omega (arith, few, ap (λ (ts : List Opened). length (others_in which ts)) same, asked_is, enough)
