use Rattle.std.proofs.Common.{◌≡◌, ◌≤◌, ◌-◌, ◌++◌, length, take, min}
use Rattle.std.specs.Prelude.{IsTrue, drop}
use Rattle.outside.specs.Streams.{SayMoves}
use Rattle.line_model.specs.Replies.{text_of}
use Rattle.store_commands.specs.Spoken.{spoken}
use Rattle.lines_in.proofs.saying.say_pieces.Given as goal

abbrev pub invariant-loop-n : goal.invariant-loop-n
invariant-loop-n g l = record {
  said : IsTrue g.W.Outside.tells_output → (g.W.Disk.world l.out).beside.said ≡ (g.W.Disk.world l.fn.out).beside.said ++ take l.from (text_of (spoken l.reply));
  within : l.from ≤ length (text_of (spoken l.reply));
  size : l.n ≡ min (length l.buffer) (length (text_of (spoken l.reply)) - l.from);
  bytes : take l.n l.buffer ≡ take (length l.buffer) (drop l.from (text_of (spoken l.reply)));
  moves : SayMoves (g.W.Disk.world l.fn.out) (g.W.Disk.world l.out);
}

abbrev pub decreases-loop-n : goal.decreases-loop-n
decreases-loop-n g l = length (text_of (spoken l.reply)) - l.from
