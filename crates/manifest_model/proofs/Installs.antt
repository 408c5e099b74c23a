-- The three writes of an install, cut short or done.
use Rattle.std.proofs.Common.{◌≡◌, inl, inr, ℕ, [], ◌∷◌, length, refl, sym, ap, ◌∙◌, subst, arith}
use Rattle.std.proofs.lemmas.Bool.{cases_eq}
use Rattle.std.specs.Prelude.{List, Result, Ok, OnOk}
use Rattle.disk_trait.specs.Image.{Image, Shows, Torn, overwritten}
use Rattle.disk_trait.specs.World.{IsDurable, Leads, World, WriteMoves}
use Rattle.disk_trait.proofs.Calls.{leads_then, through}
use Rattle.disk_trait.proofs.Images.{overwritten_at, whole, window_kept, window_overwritten}
use Rattle.manifest_model.specs.Installs.{BeginsClosed, BeginsOpen, ClosesTheGate, Install, InstalledIsInFormat2, InstalledIsInUse, IsClosed, IsInstalled, IsOldOrNew, IsOpenStill, IsWritten, MayInstall, OpensTheGate, WriteTurns, WritesTheBody}
use Rattle.manifest_model.specs.SlotLaws.{IsInSlot}
use Rattle.manifest_model.specs.Slots.{HoldsVersion, HoldsOlder, IsVersionOf}
use Rattle.manifest_model.specs.Version.{Version, body_bytes, body_place}
use Rattle.manifest_model.proofs.Held.{body_fits, held_format}
use Rattle.manifest_model.proofs.SlotFrames.{slot_kept, slots_apart, turned}
use Rattle.manifest_model.proofs.Versions.{in_use}

written_byte : (place b : ℕ) (f g : Image) → g ≡ overwritten f place (b ∷ []) → g place ≡ b
written_byte place b f g is = ap (λ (h : Image). h place) is ∙ overwritten_at f place (b ∷ []) place 0 (omega arith) (omega arith)

-- a write of the gate leaves the body
behind_gate : (slot format : ℕ) (v : Version) (f g : Image) → Torn slot 1 f g → Shows (body_place slot) (body_bytes format v) f → Shows (body_place slot) (body_bytes format v) g
behind_gate slot format v f g torn body = window_kept slot 1 f g (body_place slot) (length (body_bytes format v)) (inr (omega arith)) torn ∙ body

module _ (i : Install) (may : MayInstall i) where
  gate_inside : IsInSlot i.other i.other 1
  gate_inside = (omega arith, omega arith)

  body_inside : IsInSlot i.other (body_place i.other) (length (body_bytes 2 i.to))
  body_inside = (omega arith, omega (arith, body_fits 2 i.to may.sound))

  here_kept : (at n : ℕ) (f g : Image) → IsInSlot i.other at n → Torn at n f g → HoldsVersion i.slot i.from f → HoldsVersion i.slot i.from g
  here_kept at n f g inside torn here = slot_kept i.slot at n i.from f g (slots_apart i.slot i.other at n may.slots inside) torn here

  old_with : (image : Image) → HoldsVersion i.slot i.from image → HoldsOlder i.other i.from.epoch image → IsVersionOf i.from image
  old_with image here there = in_use i.slot i.other i.from image may.slots (record { here = here; there = there })

  -- ---- closing the gate

  open_is_old : (f : Image) → IsOpenStill i f → IsVersionOf i.from f
  open_is_old f p = old_with f p.here (inr (p.older, p.there, p.lesser))

  gate_torn : (f g : Image) → IsOpenStill i f → Torn i.other 1 f g → HoldsOlder i.other i.from.epoch g
  gate_torn f g p torn = elim (cases_eq (g i.other) 1) [
    | inl open_still ↦ inr (p.older, record { is_open = open_still; sound = p.there.sound; format = p.there.format; may = p.there.may; body = behind_gate i.other p.there.format p.older f g torn p.there.body }, p.lesser)
    | inr closed ↦ inl closed
  ]

  closing : (f g : Image) → IsOpenStill i f → Torn i.other 1 f g → IsVersionOf i.from g
  closing f g p torn = old_with g (here_kept i.other 1 f g gate_inside torn p.here) (gate_torn f g p torn)

  closed : (f g : Image) → IsOpenStill i f → g ≡ overwritten f i.other (0 ∷ []) → IsClosed i g
  closed f g p is = record {
    here = here_kept i.other 1 f g gate_inside (whole f g i.other (0 ∷ []) is) p.here;
    closed = λ now. absurd (omega (arith, written_byte i.other 0 f g is, now));
  }

  pub closes_gate : WriteTurns (IsOpenStill i) (IsVersionOf i.from) (IsClosed i) i.other (0 ∷ [])
  closes_gate = record { first = open_is_old; torn = closing; done = closed }

  -- ---- writing the body

  closed_is_old : (f : Image) → IsClosed i f → IsVersionOf i.from f
  closed_is_old f p = old_with f p.here (inl p.closed)

  still_closed : (f g : Image) → IsClosed i f → Torn (body_place i.other) (length (body_bytes 2 i.to)) f g → IsClosed i g
  still_closed f g p torn = record {
    here = here_kept (body_place i.other) (length (body_bytes 2 i.to)) f g body_inside torn p.here;
    closed = λ now. p.closed (sym (torn.before i.other (omega arith)) ∙ now);
  }

  written : (f g : Image) → IsClosed i f → g ≡ overwritten f (body_place i.other) (body_bytes 2 i.to) → IsWritten i g
  written f g p is = record {
    before = still_closed f g p (whole f g (body_place i.other) (body_bytes 2 i.to) is);
    body = subst (λ (h : Image). Shows (body_place i.other) (body_bytes 2 i.to) h) (sym is) (window_overwritten f (body_place i.other) (body_bytes 2 i.to));
  }

  pub writes_body : WriteTurns (IsClosed i) (IsVersionOf i.from) (IsWritten i) (body_place i.other) (body_bytes 2 i.to)
  writes_body = record { first = closed_is_old; torn = λ f g p torn. closed_is_old g (still_closed f g p torn); done = written }

  -- ---- opening the gate

  installed : (f g : Image) → IsWritten i f → Torn i.other 1 f g → g i.other ≡ 1 → IsInstalled i g
  installed f g p torn gate = record {
    here = record { is_open = gate; sound = may.sound; format = 2; may = inl refl; body = behind_gate i.other 2 i.to f g torn p.body };
    format = refl;
    there = here_kept i.other 1 f g gate_inside torn p.before.here;
  }

  pub installed_is_new : (image : Image) → IsInstalled i image → IsVersionOf i.to image
  installed_is_new image p = in_use i.other i.slot i.to image (turned i.slot i.other may.slots) (record { here = p.here; there = inr (i.from, p.there, may.later) })

  opening : (f g : Image) → IsWritten i f → Torn i.other 1 f g → IsOldOrNew i g
  opening f g p torn = elim (cases_eq (g i.other) 1) [
    | inl gate ↦ inr (installed_is_new g (installed f g p torn gate))
    | inr closed ↦ inl (old_with g (here_kept i.other 1 f g gate_inside torn p.before.here) (inl closed))
  ]

  opened : (f g : Image) → IsWritten i f → g ≡ overwritten f i.other (1 ∷ []) → IsInstalled i g
  opened f g p is = installed f g p (whole f g i.other (1 ∷ []) is) (written_byte i.other 1 f g is)

  pub opens_gate : WriteTurns (IsWritten i) (IsOldOrNew i) (IsInstalled i) i.other (1 ∷ [])
  opens_gate = record { first = λ f p. inl (closed_is_old f p.before); torn = opening; done = opened }

pub begins_open : BeginsOpen
begins_open i image current opened = elim current.there [
  | inl closed ↦ absurd (closed opened)
  | inr older ↦ record { here = current.here; older = older.0; there = older.1; lesser = older.2 }
]

pub begins_closed : BeginsClosed
begins_closed i image current closed = record { here = current.here; closed = closed }

pub closes : ClosesTheGate
closes i may = closes_gate i may

pub writes : WritesTheBody
writes i may = writes_body i may

pub opens : OpensTheGate
opens i may = opens_gate i may

pub installed_in_use : InstalledIsInUse
installed_in_use i image may p = record { here = p.here; there = inr (i.from, p.there, may.later) }

-- ---- over the moments of a disk: a write through to the end leads as its image facts say

pub turns_leads : {T E : Type 0} (P Q R : Image → Type 0) (at : ℕ) (bytes : List ℕ) (result : Result T E) (a b : World) → WriteTurns P Q R at bytes
    → a.leaves a.moment a.seen.held → WriteMoves at (length bytes) a b → OnOk result (b.seen.held ≡ overwritten a.seen.held at bytes) → OnOk result (IsDurable b)
    → Leads P Q R result a b
turns_leads P Q R at bytes result a b turns current moves written durable =
    through P Q R at bytes result a b current moves written durable turns.first turns.torn turns.done

-- the three, one after the other, each done but for the last
pub install_leads : {T U V E F G : Type 0} (i : Install) (x : T) (y : U) (result : Result V G) (a b c d : World)
    → Leads {E = E} (IsOpenStill i) (IsVersionOf i.from) (IsClosed i) (Ok x) a b
    → Leads {E = F} (IsClosed i) (IsVersionOf i.from) (IsWritten i) (Ok y) b c
    → Leads (IsWritten i) (IsOldOrNew i) (IsInstalled i) result c d
    → Leads (IsOpenStill i) (IsOldOrNew i) (IsInstalled i) result a d
install_leads i x y result a b c d first second third =
    leads_then _ _ _ _ _ x result a b d (λ f old. inl old) first (leads_then _ _ _ _ _ y result b c d (λ f old. inl old) second third)

pub installed_format : InstalledIsInFormat2
installed_format i image is = held_format i.other i.to image is.here ∙ is.format
