use Rattle.std.proofs.Common.{◌≡◌, ◌++◌, take, flat_map}
use Rattle.std.specs.Prelude.{IsTrue}
use Rattle.outside.specs.Streams.{SayMoves}
use Rattle.surf_run.specs.Readings.{text_of_opened}
use Rattle.surf_run.proofs.tables.say_lines.Given as goal

-- the lines of some first tables were said
abbrev pub invariant-loop-table : goal.invariant-loop-table
invariant-loop-table g l = record {
  said : IsTrue g.W.Outside.tells_output → (g.W.Disk.world l.out).beside.said ≡ (g.W.Disk.world l.fn.out).beside.said ++ flat_map text_of_opened (take l.table-index l.fn.store.tables);
  moves : SayMoves (g.W.Disk.world l.fn.out) (g.W.Disk.world l.out);
}
