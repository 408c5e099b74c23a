use Rattle.disk_mem.proofs.Ends.{write_moves, write_holds, write_fails}
use Rattle.disk_mem.proofs.as_disk.MemDiskDisk.write.Goals as goal

pub returns-clause-written : goal.returns-clause-written
returns-clause-written c = write_holds _ _ _ _ _ c.number_write.ensures.ends

pub returns-clause-moves : goal.returns-clause-moves
returns-clause-moves c = write_moves _ _ _ _ _ c.number_write.ensures.ends

pub returns-clause-fails : goal.returns-clause-fails
returns-clause-fails c = write_fails _ _ _ _ _ c.number_write.ensures.ends
