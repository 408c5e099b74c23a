use Rattle.manifest.proofs.Steps.{writes_at}
use Rattle.manifest.proofs.installing.put_body.Goals as goal

pub returns-clause-crash : goal.returns-clause-crash
returns-clause-crash g c i tells may here is =
    writes_at i may c.args.slot here c.write_through.result _ _ (g.met.D.Disk.current c.args.disk.now tells) c.write_through.ensures.durable
    c.args.body.now is c.write_through.ensures.moves (c.write_through.ensures.written tells)
