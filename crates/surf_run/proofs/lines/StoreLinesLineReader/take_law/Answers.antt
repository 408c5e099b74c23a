use Rattle.surf_run.specs.Kind.{filter_kind}
use Rattle.surf_run.proofs.Outcomes.{served_take}
use Rattle.surf_run.proofs.lines.StoreLinesLineReader.take_law.Goals as goal

pub returns : goal.returns
returns g c start lines first old new moves read =
    served_take (filter_kind g.F.RangeFilter.spelling g.F.RangeFilter.built_cutoff) start.0 start.1 lines c.args.self.now.store (g.W.Disk.world first) (g.W.Disk.world old) (g.W.Disk.world new) moves (g.met.W.Outside.said_now old) read
