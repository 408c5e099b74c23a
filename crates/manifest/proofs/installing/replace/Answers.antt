use Rattle.std.proofs.Common.{inl}
use Rattle.disk_trait.proofs.Calls.{leads_then, leads_stop}
use Rattle.manifest_model.specs.Installs.{IsClosed, IsInstalled, IsOldOrNew, IsWritten}
use Rattle.manifest_model.specs.Slots.{IsVersionOf}
use Rattle.manifest.specs.Steps.{MayClose}
use Rattle.manifest.proofs.installing.replace.Goals as goal

pub returns-clause-crash : goal.returns-clause-crash
returns-clause-crash g c i tells may here is =
    leads_then (MayClose i c.args.other_open) (IsVersionOf i.from) (IsClosed i) (IsOldOrNew i) (IsInstalled i) _ c.open_gate.result _ _ _ (λ f old. inl old) (c.in_ok-close_gate.ensures.crash i tells may here)
    (leads_then (IsClosed i) (IsVersionOf i.from) (IsWritten i) (IsOldOrNew i) (IsInstalled i) _ c.open_gate.result _ _ _ (λ f old. inl old) (c.in_ok-put_body.ensures.crash i tells may here is)
    (c.open_gate.ensures.crash i tells may here))

pub returns-in_err-close_gate-clause-crash : goal.returns-in_err-close_gate-clause-crash
returns-in_err-close_gate-clause-crash g c i tells may here is =
    leads_stop (MayClose i c.args.other_open) (IsVersionOf i.from) (IsClosed i) (IsOldOrNew i) (IsInstalled i) _ c.from_residual.result _ _ (λ f old. inl old) c.from_residual.ensures.0 (c.in_err-close_gate.ensures.crash i tells may here)

pub returns-in_err-put_body-clause-crash : goal.returns-in_err-put_body-clause-crash
returns-in_err-put_body-clause-crash g c i tells may here is =
    leads_then (MayClose i c.args.other_open) (IsVersionOf i.from) (IsClosed i) (IsOldOrNew i) (IsInstalled i) _ c.from_residual-in_err-put_body.result _ _ _ (λ f old. inl old) (c.in_ok-close_gate.ensures.crash i tells may here)
    (leads_stop (IsClosed i) (IsVersionOf i.from) (IsWritten i) (IsOldOrNew i) (IsInstalled i) _ c.from_residual-in_err-put_body.result _ _ (λ f old. inl old) c.from_residual-in_err-put_body.ensures.0 (c.in_err-put_body.ensures.crash i tells may here is))
