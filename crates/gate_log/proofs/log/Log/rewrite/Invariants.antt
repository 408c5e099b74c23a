use Rattle.std.proofs.Common.{◌≡◌, take}
use Rattle.key_base.specs.Limits.{log_bytes}
use Rattle.std.specs.Prelude.{IsTrue}
use Rattle.disk_trait.specs.World.{Now, WriteMoves}
use Rattle.log_model.specs.Changes.{filled_by}
use Rattle.log_model.specs.Area.{LogIs, start_of}
use Rattle.gate_log.proofs.log.Log.rewrite.Given as goal

abbrev pub invariant-loop-change : goal.invariant-loop-change
invariant-loop-change g l = record {
  area : l.log.area ≡ l.fn.area;
  place : l.log.filled ≡ filled_by (take l.change-index l.changes);
  stands : IsTrue g.D.Disk.tells → Now (LogIs l.fn.area (take l.change-index l.changes)) (g.D.Disk.world l.disk);
  moves : WriteMoves (start_of l.fn.area) log_bytes (g.D.Disk.world l.fn.disk) (g.D.Disk.world l.disk);
}
