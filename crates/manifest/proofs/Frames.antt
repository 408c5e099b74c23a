-- What a store keeps beside its manifest goes through an install, where writes into the slot that is not in use keep it.
use Rattle.std.proofs.Common.{◌≤◌, ◌-◌, true}
use Rattle.std.specs.Prelude.{Result, OnOk}
use Rattle.disk_trait.specs.Image.{Image, Torn}
use Rattle.disk_trait.specs.World.{Leads, Now, World, WriteMoves}
use Rattle.disk_trait.proofs.Calls.{leads_framed, on_ok_one}
use Rattle.manifest_model.specs.Installs.{IsInstalled, IsOldOrNew, MayInstall}
use Rattle.manifest_model.specs.Version.{Version}
use Rattle.manifest.specs.Manifest.{Manifest, StandsInSlot, install_of, other_place, raised}
use Rattle.manifest.proofs.Steps.{installed_stands}

-- THE FRAME: any fact of images that writes into the other slot keep
pub install_keeps : {T E : Type 0} (G : Image → Type 0) (m : Manifest) (from : Version) (result : Result T E) (a b : World)
    → ((f g : Image) → G f → Torn (other_place m.slot) 131072 f g → G g) → WriteMoves (other_place m.slot) 131072 a b
    → Leads (StandsInSlot m.slot m.other_open from) (IsOldOrNew (install_of m from)) (IsInstalled (install_of m from)) result a b
    → Leads (λ i. G i × StandsInSlot m.slot m.other_open from i) (λ i. G i × IsOldOrNew (install_of m from) i) (λ i. G i × IsInstalled (install_of m from) i) result a b
install_keeps G m from result a b keeps moves leads =
    leads_framed G (StandsInSlot m.slot m.other_open from) (IsOldOrNew (install_of m from)) (IsInstalled (install_of m from)) (other_place m.slot) 131072 result a b keeps moves.time leads

-- what was installed stands, in the other slot and with both gates open
pub lasts : {T E : Type 0} (m : Manifest) (from : Version) (result : Result T E) (a b : World) → MayInstall (install_of m from) → m.slot ≤ 1
    → Leads (StandsInSlot m.slot m.other_open from) (IsOldOrNew (install_of m from)) (IsInstalled (install_of m from)) result a b
    → Now (StandsInSlot m.slot m.other_open from) a → OnOk result (Now (StandsInSlot (1 - m.slot) true (raised m.version)) b)
lasts m from result a b may le leads here = on_ok_one _ _ result (λ now image left. installed_stands m from image may le (now image left)) (leads.after here)
