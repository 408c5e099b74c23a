-- The parts of an install, over the moments of a disk.
use Rattle.std.proofs.Common.{◌≡◌, ◌≤◌, ◌+◌, ◌-◌, inl, inr, ℕ, zero, suc, [], ◌∷◌, Bool, true, false, length, refl, sym, subst, arith}
use Rattle.std.specs.Prelude.{Result, Ok, Err, OnOk}
use Rattle.disk_trait.specs.Image.{Image, overwritten}
use Rattle.disk_trait.specs.World.{IsDurable, Leads, World, WriteMoves}
use Rattle.disk_trait.proofs.Calls.{leads_none}
use Rattle.key_base.specs.Limits.{last_epoch}
use Rattle.map_model.specs.SortedMap.{Bytes}
use Rattle.manifest_model.specs.Installs.{Install, IsClosed, IsInstalled, IsOldOrNew, IsOpenStill, IsWritten, MayInstall, WriteTurns}
use Rattle.manifest_model.specs.Slots.{AreSlots, IsCurrent, IsGate, IsVersionOf}
use Rattle.manifest_model.specs.Version.{Version, body_bytes}
use Rattle.manifest_model.proofs.Installs.{begins_closed, begins_open, closes, installed_in_use, opens, turns_leads, writes}
use Rattle.manifest_model.proofs.Versions.{in_use}
use Rattle.manifest_model.specs.Laws.{IsVersion}
use Rattle.manifest.specs.Manifest.{Manifest, StandsInSlot, install_of, other_place, place_of, raised}
use Rattle.manifest.specs.Steps.{MayClose}

-- the other slot's gate reads 1 where it is said to
is_open_still : (i : Install) (image : Image) → MayClose i true image → IsOpenStill i image
is_open_still i image may = begins_open i image may.current may.gate

is_closed : (i : Install) (image : Image) → MayClose i false image → IsClosed i image
is_closed i image may = begins_closed i image may.current may.gate

closing : (i : Install) → MayInstall i → WriteTurns (MayClose i true) (IsVersionOf i.from) (IsClosed i) i.other (0 ∷ [])
closing i may =
    let turns = closes i may in
    record {
      first = λ f p. turns.first f (is_open_still i f p);
      torn = λ f g p. turns.torn f g (is_open_still i f p);
      done = λ f g p. turns.done f g (is_open_still i f p);
    }

-- a part that writes at the place that it was handed
module _ {T E : Type 0} (i : Install) (may : MayInstall i) (slot : ℕ) (here : i.other ≡ slot) (result : Result T E) (a b : World)
    (current : a.leaves a.moment a.seen.held) (durable : OnOk result (IsDurable b)) where
  pub closes_at : (is_open : Bool) → is_open ≡ true → WriteMoves slot 1 a b → OnOk result (b.seen.held ≡ overwritten a.seen.held slot (0 ∷ []))
      → Leads (MayClose i is_open) (IsVersionOf i.from) (IsClosed i) result a b
  closes_at is_open said moves written =
      subst (λ (b' : Bool). Leads (MayClose i b') (IsVersionOf i.from) (IsClosed i) result a b) (sym said)
      (turns_leads (MayClose i true) (IsVersionOf i.from) (IsClosed i) slot (0 ∷ []) result a b
      (subst (λ (n : ℕ). WriteTurns (MayClose i true) (IsVersionOf i.from) (IsClosed i) n (0 ∷ [])) here (closing i may)) current moves written durable)

  pub writes_at : (body : Bytes) → body ≡ body_bytes 2 i.to → WriteMoves (slot + 8) (length body) a b → OnOk result (b.seen.held ≡ overwritten a.seen.held (slot + 8) body)
      → Leads (IsClosed i) (IsVersionOf i.from) (IsWritten i) result a b
  writes_at body is moves written =
      turns_leads (IsClosed i) (IsVersionOf i.from) (IsWritten i) (slot + 8) body result a b
      (subst (λ (bytes : Bytes). WriteTurns (IsClosed i) (IsVersionOf i.from) (IsWritten i) (slot + 8) bytes) (sym is)
      (subst (λ (n : ℕ). WriteTurns (IsClosed i) (IsVersionOf i.from) (IsWritten i) (n + 8) (body_bytes 2 i.to)) here (writes i may))) current moves written durable

  pub opens_at : WriteMoves slot 1 a b → OnOk result (b.seen.held ≡ overwritten a.seen.held slot (1 ∷ [])) → Leads (IsWritten i) (IsOldOrNew i) (IsInstalled i) result a b
  opens_at moves written =
      turns_leads (IsWritten i) (IsOldOrNew i) (IsInstalled i) slot (1 ∷ []) result a b
      (subst (λ (n : ℕ). WriteTurns (IsWritten i) (IsOldOrNew i) (IsInstalled i) n (1 ∷ [])) here (opens i may)) current moves written durable

-- where the gate is closed, nothing is called
pub left_closed : {T E : Type 0} (i : Install) → MayInstall i → (is_open : Bool) → is_open ≡ false → (x : T) (a : World)
    → Leads {E = E} (MayClose i is_open) (IsVersionOf i.from) (IsClosed i) (Ok x) a a
left_closed i may is_open said x a =
    let turns = writes i may in
    leads_none (MayClose i is_open) (IsVersionOf i.from) (IsClosed i) x a
    (λ f p. turns.first f (is_closed i f (subst (λ (b : Bool). MayClose i b f) said p))) (λ f p. is_closed i f (subst (λ (b : Bool). MayClose i b f) said p))

-- ---- the whole, from what a version that is handed in says

-- the last epoch as a number, for arithmetic
pub last_is : last_epoch ≡ 18446744073709551615
unfolding last_epoch
last_is = refl

pub raised_is : (v : Version) → IsVersion v → (v.epoch ≡ last_epoch → ⊥) → IsVersion (raised v)
raised_is v is not_last = record {
  few_tables = is.few_tables;
  some_epoch = omega arith;
  epoch = omega (arith, is.epoch, not_last, last_is);
  some_pages = is.some_pages;
  few_pages = is.few_pages;
  hash_bits = is.hash_bits;
  real_bits = is.real_bits;
  ratio = is.ratio;
  log_page = is.log_page;
  rows = is.rows;
  settings = is.settings;
  placed = is.placed;
}

pub are_slots : (slot : ℕ) → slot ≤ 1 → AreSlots (place_of slot) (other_place slot)
are_slots zero le = inl (refl, refl)
are_slots (suc slot) le = let none : slot ≡ 0 = omega (arith, le) in subst (λ (n : ℕ). AreSlots (place_of (suc n)) (other_place (suc n))) (sym none) (inr (refl, refl))

pub may_install : (m : Manifest) (from : Version) → m.slot ≤ 1 → IsVersion (raised m.version) → from.epoch ≡ m.version.epoch → MayInstall (install_of m from)
may_install m from slot is same = record { slots = are_slots m.slot slot; later = omega (arith, same); sound = is }

pub stands_may_close : (m : Manifest) (from : Version) (image : Image) → StandsInSlot m.slot m.other_open from image → MayClose (install_of m from) m.other_open image
stands_may_close m from image stands = record { current = stands.current; gate = stands.gate }

-- done: the same of whatever else was done with no call
pub leads_done : {T U E F : Type 0} (P Q R : Image → Type 0) (x : T) (y : U) (a b : World) → Leads {E = E} P Q R (Ok x) a b → Leads {E = F} P Q R (Ok y) a b
leads_done P Q R x y a b leads = record { meanwhile = leads.meanwhile; after = leads.after }

-- the version that stands when it is installed
pub installed_stands : (m : Manifest) (from : Version) (image : Image) → MayInstall (install_of m from) → m.slot ≤ 1 → IsInstalled (install_of m from) image
    → StandsInSlot (1 - m.slot) true (raised m.version) image
installed_stands m from image may le is =
    let back : 1 - (1 - m.slot) ≡ m.slot = omega (arith, le) in
    record {
      current = subst (λ (n : ℕ). IsCurrent (other_place m.slot) (place_of n) (raised m.version) image) (sym back) (installed_in_use (install_of m from) image may is);
      gate = subst (λ (n : ℕ). IsGate true (image (place_of n))) (sym back) is.there.is_open;
    }

-- an install that was refused before its first call
pub not_begun : {T E : Type 0} (m : Manifest) (from : Version) (e : E) (a : World) → m.slot ≤ 1
    → Leads {T = T} (StandsInSlot m.slot m.other_open from) (IsOldOrNew (install_of m from)) (IsInstalled (install_of m from)) (Err e) a a
not_begun {E = E} m from e a le =
    let stays : (image : Image) → StandsInSlot m.slot m.other_open from image → IsOldOrNew (install_of m from) image =
    λ image stands. inl (in_use (place_of m.slot) (other_place m.slot) from image (are_slots m.slot le) stands.current) in
    record {
      meanwhile = (leads_none {E = E} (StandsInSlot m.slot m.other_open from) (IsOldOrNew (install_of m from)) (IsOldOrNew (install_of m from)) e a stays stays).meanwhile;
      after = λ here. tt;
    }
