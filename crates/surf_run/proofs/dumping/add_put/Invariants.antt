use Rattle.std.proofs.Common.{◌≡◌, ◌<◌, ◌≤◌, ◌-◌, ◌++◌, length, take}
use Rattle.std.specs.Prelude.{IsTrue}
use Rattle.outside.specs.Streams.{SayMoves}
use Rattle.store_commands.specs.Puts.{put_text}
use Rattle.surf_run.proofs.dumping.add_put.Given as goal

-- what was said, and what waits, is what waited at first and so much of the line
abbrev pub invariant-loop-used : goal.invariant-loop-used
invariant-loop-used g l = record {
  said : IsTrue g.W.Outside.tells_output
      → (g.W.Disk.world l.out).beside.said ++ take l.used l.buffer ≡ (g.W.Disk.world l.fn.out).beside.said ++ (take l.fn.used l.fn.buffer ++ take l.from (put_text l.fn.key l.fn.value));
  within : l.from ≤ length (put_text l.fn.key l.fn.value);
  room : l.used < length l.buffer;
  moves : SayMoves (g.W.Disk.world l.fn.out) (g.W.Disk.world l.out);
}

abbrev pub decreases-loop-used : goal.decreases-loop-used
decreases-loop-used g l = length (put_text l.fn.key l.fn.value) - l.from
