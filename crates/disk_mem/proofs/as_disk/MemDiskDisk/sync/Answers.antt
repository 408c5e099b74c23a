use Rattle.disk_mem.proofs.Ends.{sync_moves, sync_is_durable, sync_fails}
use Rattle.disk_mem.proofs.as_disk.MemDiskDisk.sync.Goals as goal

pub returns-clause-durable : goal.returns-clause-durable
returns-clause-durable c = sync_is_durable _ _ _ c.number_sync.ensures.ends

pub returns-clause-moves : goal.returns-clause-moves
returns-clause-moves c = sync_moves _ _ _ c.number_sync.ensures.ends

pub returns-clause-fails : goal.returns-clause-fails
returns-clause-fails c = sync_fails _ _ _ c.number_sync.ensures.ends
