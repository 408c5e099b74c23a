use Rattle.std.proofs.Common.{◌≡◌, length, ap, ◌∙◌, arith}
use Rattle.disk_trait.specs.declared.fault.DiskFault.{DiskFault}
use Rattle.disk_trait.proofs.Calls.{leads_then, leads_stop}
use Rattle.std.specs.Prelude.{Ok}
use Rattle.manifest_model.specs.Slots.{IsNoStore}
use Rattle.manifest_model.specs.Version.{body_bytes}
use Rattle.manifest_model.specs.NewVersion.{new_version}
use Rattle.manifest_model.proofs.Held.{body_fits, room_is}
use Rattle.manifest_model.proofs.NewVersions.{new_is_one}
use Rattle.manifest.specs.NewManifest.{IsNew, IsNewOrNone}
use Rattle.manifest.proofs.News.{looked}
use Rattle.manifest.proofs.Steps.{leads_done}
use Rattle.manifest.proofs.formatting.format.Goals as goal

pub write_first-requires : goal.write_first-requires
write_first-requires g c =
    let v = new_version c.args.settings c.args.pages in
    let is = new_is_one c.args.settings c.args.pages c.requires.settings c.in_ok-body.ensures.ratio c.requires.from c.requires.to in
    let body : c.deref.result.now ≡ body_bytes 2 v = c.deref.ensures.value ∙ c.in_ok-body.ensures.bytes in
    omega (arith, ap length body, body_fits 2 v is, room_is)

pub returns-in_err-write_first-clause-crash : goal.returns-in_err-write_first-clause-crash
returns-in_err-write_first-clause-crash g c tells =
    let v = new_version c.args.settings c.args.pages in
    let is = new_is_one c.args.settings c.args.pages c.requires.settings c.in_ok-body.ensures.ratio c.requires.from c.requires.to in
    let body : c.deref.result.now ≡ body_bytes 2 v = c.deref.ensures.value ∙ c.in_ok-body.ensures.bytes in
    let result = c.from_residual-in_err-write_first.result in
    leads_then {E = DiskFault} IsNoStore (IsNewOrNone v) IsNoStore (IsNewOrNone v) (IsNew v) _ result _ _ _ (λ f p. p) (looked v is (Ok c.in_ok-is_store.field-0) _ _ c.in_ok-is_store.ensures.moves)
    (leads_stop IsNoStore (IsNewOrNone v) (IsNew v) (IsNewOrNone v) (IsNew v) _ result _ _ (λ f p. p) c.from_residual-in_err-write_first.ensures.0 (c.in_err-write_first.ensures.crash v tells is body))

pub returns-clause-crash : goal.returns-clause-crash
returns-clause-crash g c tells =
    let v = new_version c.args.settings c.args.pages in
    let is = new_is_one c.args.settings c.args.pages c.requires.settings c.in_ok-body.ensures.ratio c.requires.from c.requires.to in
    let body : c.deref.result.now ≡ body_bytes 2 v = c.deref.ensures.value ∙ c.in_ok-body.ensures.bytes in
    leads_then {E = DiskFault} IsNoStore (IsNewOrNone v) IsNoStore (IsNewOrNone v) (IsNew v) _ _ _ _ _ (λ f p. p) (looked v is (Ok c.in_ok-is_store.field-0) _ _ c.in_ok-is_store.ensures.moves)
    (leads_done IsNoStore (IsNewOrNone v) (IsNew v) _ _ _ _ (c.in_ok-write_first.ensures.crash v tells is body))
