use Rattle.manifest.proofs.Steps.{opens_at}
use Rattle.manifest.proofs.installing.open_gate.Goals as goal

pub returns-clause-crash : goal.returns-clause-crash
returns-clause-crash g c i tells may here =
    opens_at i may c.args.slot here c.write_through.result _ _ (g.met.D.Disk.current c.args.disk.now tells) c.write_through.ensures.durable
    c.write_through.ensures.moves (c.write_through.ensures.written tells)
