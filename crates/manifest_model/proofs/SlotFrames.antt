-- What is written apart from a slot changes nothing of what it holds.
use Rattle.std.proofs.Common.{◌≡◌, ◌⊎◌, inl, inr, ◌<◌, ◌≤◌, ◌+◌, ℕ, length, sym, ◌∙◌, arith}
use Rattle.disk_trait.specs.Image.{Image, Torn}
use Rattle.disk_trait.proofs.Images.{byte_kept, window_kept}
use Rattle.manifest_model.specs.SlotLaws.{CurrentIsKept, InUseIsKept, IsApartFromSlot, IsInSlot, OlderIsKept, SlotIsKept, VersionIsKept}
use Rattle.manifest_model.specs.Slots.{AreSlots}
use Rattle.manifest_model.specs.Version.{body_bytes, body_place, slot_a, slot_b}
use Rattle.manifest_model.proofs.Held.{body_fits}

gate_apart : (slot at n : ℕ) → IsApartFromSlot slot at n → (slot < at) ⊎ (at + n ≤ slot)
gate_apart slot at n (inl low) = inl (omega (arith, low))
gate_apart slot at n (inr high) = inr high

body_apart : (slot size at n : ℕ) → size ≤ 131064 → IsApartFromSlot slot at n → (body_place slot + size ≤ at) ⊎ (at + n ≤ body_place slot)
body_apart slot size at n fits (inl low) = inl (omega (arith, low, fits))
body_apart slot size at n fits (inr high) = inr (omega (arith, high))

pub gate_kept : (slot at n : ℕ) (f g : Image) → IsApartFromSlot slot at n → Torn at n f g → g slot ≡ f slot
gate_kept slot at n f g apart torn = byte_kept at n f g slot (gate_apart slot at n apart) torn

pub slot_kept : SlotIsKept
slot_kept slot at n v f g apart torn holds = record {
  is_open = gate_kept slot at n f g apart torn ∙ holds.is_open;
  sound = holds.sound;
  format = holds.format;
  may = holds.may;
  body =
      window_kept at n f g (body_place slot) (length (body_bytes holds.format v)) (body_apart slot (length (body_bytes holds.format v)) at n (body_fits holds.format v holds.sound) apart) torn
      ∙ holds.body;
}

pub older_kept : OlderIsKept
older_kept slot epoch at n f g apart torn (inl closed) = inl (λ now. closed (sym (gate_kept slot at n f g apart torn) ∙ now))
older_kept slot epoch at n f g apart torn (inr older) = inr (older.0, slot_kept slot at n older.0 f g apart torn older.1, older.2)

pub slots_apart : (slot other at n : ℕ) → AreSlots slot other → IsInSlot other at n → IsApartFromSlot slot at n
slots_apart slot other at n (inl are) inside = inl (omega (arith, are.0, are.1, inside.0))
slots_apart slot other at n (inr are) inside = inr (omega (arith, are.0, are.1, inside.1))

pub turned : (slot other : ℕ) → AreSlots slot other → AreSlots other slot
turned slot other (inl are) = inr (are.1, are.0)
turned slot other (inr are) = inl (are.1, are.0)

pub in_use_kept : InUseIsKept
in_use_kept slot other at n v f g are inside torn current = slot_kept slot at n v f g (slots_apart slot other at n are inside) torn current.here

pub current_kept : CurrentIsKept
current_kept slot other at n v f g here there torn is = record {
  here = slot_kept slot at n v f g here torn is.here;
  there = older_kept other v.epoch at n f g there torn is.there;
}

pub version_kept : VersionIsKept
version_kept at n v f g a b torn (inl is) = inl (current_kept slot_a slot_b at n v f g a b torn is)
version_kept at n v f g a b torn (inr is) = inr (current_kept slot_b slot_a at n v f g b a torn is)
