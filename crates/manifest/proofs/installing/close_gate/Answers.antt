use Rattle.std.proofs.Common.{rules}
use Rattle.manifest.proofs.Steps.{closes_at, left_closed}
use Rattle.manifest.proofs.installing.close_gate.Goals as goal

pub returns-clause-crash : goal.returns-clause-crash
returns-clause-crash g c i tells may here =
    closes_at i may c.args.other here c.write_through.result _ _ (g.met.D.Disk.current c.args.disk.now tells) c.write_through.ensures.durable
    c.args.is_open (search rules) c.write_through.ensures.moves (c.write_through.ensures.written tells)

pub returns-then-not-is_open-clause-crash : goal.returns-then-not-is_open-clause-crash
returns-then-not-is_open-clause-crash g c i tells may here = left_closed i may c.args.is_open (search rules) _ _
