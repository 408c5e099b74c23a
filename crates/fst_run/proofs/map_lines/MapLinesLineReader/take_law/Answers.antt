use Rattle.fst_run.proofs.Dialogue.{take_answered}
use Rattle.fst_run.proofs.Still.{only_take}
use Rattle.fst_run.proofs.map_lines.MapLinesLineReader.take_law.Goals as goal

pub returns : goal.returns
returns g c start lines first old new moves read = (
  read.0,
  take_answered start lines (g.W.Disk.world first) (g.W.Disk.world old) (g.W.Disk.world new) moves.said read.1,
  only_take (g.W.Disk.world first) (g.W.Disk.world old) (g.W.Disk.world new) read.2 (g.met.W.Outside.said_now old) moves,
)
