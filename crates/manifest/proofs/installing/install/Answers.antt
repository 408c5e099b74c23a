use Rattle.std.proofs.Common.{◌≡◌, ◌+◌, ◌-◌, ◌*◌, ℕ, length, sym, ap, ◌∙◌, subst, arith, Bool}
use Rattle.disk_trait.specs.Image.{Image}
use Rattle.disk_trait.proofs.Calls.{leads_weaker, leads_stop}
use Rattle.manifest_model.specs.Installs.{IsInstalled, IsOldOrNew}
use Rattle.manifest_model.specs.Version.{body_bytes}
use Rattle.manifest_model.proofs.Held.{body_fits, room_is}
use Rattle.manifest.specs.Manifest.{Manifest, StandsInSlot, install_of, raised}
use Rattle.manifest.specs.Steps.{MayClose}
use Rattle.manifest.specs.declared.fault.ManifestFault.TheVariants as fault
use Rattle.manifest.proofs.Frames.{lasts}
use Rattle.manifest.proofs.Steps.{last_is, leads_done, may_install, not_begun, raised_is, stands_may_close}
use Rattle.manifest.proofs.installing.install.Goals as goal

pub replace-requires-clause-fits : goal.replace-requires-clause-fits
replace-requires-clause-fits g c =
    let m = c.args.version.now in
    let epoch : c.version.inside.epoch ≡ m.version.epoch = ap (λ (m : Manifest). m.version.epoch) c.version.view_is in
    let sound = raised_is m.version c.requires.sound (λ last. c.if-version.false (epoch ∙ last ∙ last_is)) in
    let body : c.deref.result.now ≡ body_bytes 2 (raised m.version) = c.deref.ensures.value ∙ c.in_ok-body.ensures ∙ ap (λ (n : ℕ). body_bytes 2 (record m.version { epoch = n + 1 })) epoch in
    omega (arith, ap length body, body_fits 2 (raised m.version) sound, room_is)

pub returns-in_err-replace-clause-crash : goal.returns-in_err-replace-clause-crash
returns-in_err-replace-clause-crash g c from tells same =
    let m = c.args.version.now in
    let i = install_of m from in
    let epoch : c.version.inside.epoch ≡ m.version.epoch = ap (λ (m : Manifest). m.version.epoch) c.version.view_is in
    let sound = raised_is m.version c.requires.sound (λ last. c.if-version.false (epoch ∙ last ∙ last_is)) in
    let body : c.deref.result.now ≡ body_bytes 2 (raised m.version) = c.deref.ensures.value ∙ c.in_ok-body.ensures ∙ ap (λ (n : ℕ). body_bytes 2 (record m.version { epoch = n + 1 })) epoch in
    let slot : c.version.inside.slot ≡ m.slot = ap (λ (m : Manifest). m.slot) c.version.view_is in
    let open_is : c.version.inside.other_open ≡ m.other_open = ap (λ (m : Manifest). m.other_open) c.version.view_is in
    let here : i.other ≡ c.slot_place-other.result = sym (c.slot_place-other.ensures ∙ ap (λ (n : ℕ). 131072 * (1 - n)) slot) in
    let may = may_install m from c.requires.slot sound same in
    let weaker = λ (image : Image) (stands : StandsInSlot m.slot m.other_open from image). subst (λ (b : Bool). MayClose i b image) (sym open_is) (stands_may_close m from image stands) in
    leads_stop (StandsInSlot m.slot m.other_open from) (IsOldOrNew i) (IsInstalled i) (IsOldOrNew i) (IsInstalled i) _ c.from_residual-in_err-replace.result _ _ (λ f p. p) c.from_residual-in_err-replace.ensures.0
    (leads_weaker (MayClose i c.version.inside.other_open) (IsOldOrNew i) (IsInstalled i) (StandsInSlot m.slot m.other_open from) (IsOldOrNew i) (IsInstalled i) _ _ _ (c.in_err-replace.ensures.crash i tells may here body) weaker (λ f p. p) (λ f p. p))

pub returns-clause-crash : goal.returns-clause-crash
returns-clause-crash g c from tells same =
    let m = c.args.version.now in
    let i = install_of m from in
    let epoch : c.version.inside.epoch ≡ m.version.epoch = ap (λ (m : Manifest). m.version.epoch) c.version.view_is in
    let sound = raised_is m.version c.requires.sound (λ last. c.if-version.false (epoch ∙ last ∙ last_is)) in
    let body : c.deref.result.now ≡ body_bytes 2 (raised m.version) = c.deref.ensures.value ∙ c.in_ok-body.ensures ∙ ap (λ (n : ℕ). body_bytes 2 (record m.version { epoch = n + 1 })) epoch in
    let slot : c.version.inside.slot ≡ m.slot = ap (λ (m : Manifest). m.slot) c.version.view_is in
    let open_is : c.version.inside.other_open ≡ m.other_open = ap (λ (m : Manifest). m.other_open) c.version.view_is in
    let here : i.other ≡ c.slot_place-other.result = sym (c.slot_place-other.ensures ∙ ap (λ (n : ℕ). 131072 * (1 - n)) slot) in
    let may = may_install m from c.requires.slot sound same in
    let weaker = λ (image : Image) (stands : StandsInSlot m.slot m.other_open from image). subst (λ (b : Bool). MayClose i b image) (sym open_is) (stands_may_close m from image stands) in
    leads_done (StandsInSlot m.slot m.other_open from) (IsOldOrNew i) (IsInstalled i) _ _ _ _
    (leads_weaker (MayClose i c.version.inside.other_open) (IsOldOrNew i) (IsInstalled i) (StandsInSlot m.slot m.other_open from) (IsOldOrNew i) (IsInstalled i) _ _ _ (c.in_ok-replace.ensures.crash i tells may here body) weaker (λ f p. p) (λ f p. p))

pub returns-clause-lasting : goal.returns-clause-lasting
returns-clause-lasting g c from tells same here =
    let m = c.args.version.now in
    let epoch : c.version.inside.epoch ≡ m.version.epoch = ap (λ (m : Manifest). m.version.epoch) c.version.view_is in
    let sound = raised_is m.version c.requires.sound (λ last. c.if-version.false (epoch ∙ last ∙ last_is)) in
    lasts m from _ (g.D.Disk.world c.args.disk.now) (g.D.Disk.world c.replace.new.disk) (may_install m from c.requires.slot sound same) c.requires.slot (returns-clause-crash g c from tells same) here

pub returns-then-version-clause-crash : goal.returns-then-version-clause-crash
returns-then-version-clause-crash g c from tells same = not_begun c.args.version.now from fault.Epoch _ c.requires.slot

pub returns-in_err-body-clause-crash : goal.returns-in_err-body-clause-crash
returns-in_err-body-clause-crash g c from tells same =
    let i = install_of c.args.version.now from in
    leads_stop {T = Unit {0}} (StandsInSlot c.args.version.now.slot c.args.version.now.other_open from) (IsOldOrNew i) (IsInstalled i) (IsOldOrNew i) (IsInstalled i) fault.Memory c.from_residual.result _ _ (λ f p. p)
    c.from_residual.ensures.0 (not_begun c.args.version.now from fault.Memory _ c.requires.slot)
