use Rattle.disk_mem.proofs.Ends.{read_moves, read_fails}
use Rattle.disk_mem.proofs.as_disk.MemDiskDisk.read.Goals as goal

pub returns-clause-moves : goal.returns-clause-moves
returns-clause-moves c = read_moves _ _ _ _ _ c.number_read.ensures.ends

pub returns-clause-fails : goal.returns-clause-fails
returns-clause-fails c = read_fails _ _ _ _ _ c.number_read.ensures.ends
