use Rattle.std.proofs.Common.{◌+◌, arith}
use Rattle.std.specs.Prelude.{Ok, Err}
use Rattle.disk_trait.specs.declared.fault.DiskFault.{DiskFault}
use Rattle.disk_trait.proofs.Calls.{leads_then, leads_stop}
use Rattle.manifest_model.specs.Slots.{IsNoStore}
use Rattle.manifest.specs.NewManifest.{IsNew, IsNewOrNone}
use Rattle.manifest.proofs.News.{IsPrepared, prepares_at, opens_at}
use Rattle.manifest.proofs.formatting.write_first.Goals as goal

pub returns-clause-crash : goal.returns-clause-crash
returns-clause-crash g c v tells is same =
    leads_then {E = DiskFault} IsNoStore (IsNewOrNone v) (IsPrepared v) (IsNewOrNone v) (IsNew v) _ c.write_through-2.result _ _ _ (λ f p. p)
    (prepares_at v is (Ok c.in_ok-write_through.field-0) _ _ (g.met.D.Disk.current c.args.disk.now tells) c.in_ok-write_through.ensures.durable
    (c.slot_place.result + 8) (omega (arith, c.slot_place.ensures)) c.args.body.now same c.in_ok-write_through.ensures.moves (c.in_ok-write_through.ensures.written tells))
    (opens_at v is c.write_through-2.result _ _ (g.met.D.Disk.current _ tells) c.write_through-2.ensures.durable
    c.slot_place-2.result c.slot_place-2.ensures c.write_through-2.ensures.moves (c.write_through-2.ensures.written tells))

pub returns-in_err-write_through-clause-crash : goal.returns-in_err-write_through-clause-crash
returns-in_err-write_through-clause-crash g c v tells is same =
    leads_stop {T = Unit {0}} IsNoStore (IsNewOrNone v) (IsPrepared v) (IsNewOrNone v) (IsNew v) _ c.from_residual.result _ _ (λ f p. p) c.from_residual.ensures.0
    (prepares_at v is (Err c.in_err-write_through.field-0.0) _ _ (g.met.D.Disk.current c.args.disk.now tells) c.in_err-write_through.ensures.durable
    (c.slot_place.result + 8) (omega (arith, c.slot_place.ensures)) c.args.body.now same c.in_err-write_through.ensures.moves (c.in_err-write_through.ensures.written tells))
