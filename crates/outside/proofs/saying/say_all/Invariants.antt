use Rattle.std.proofs.Common.{◌≡◌, ◌++◌, List, ℕ, length, IsTrue}
use Rattle.outside.specs.Streams.{SayMoves}
use Rattle.outside.proofs.saying.say_all.Given as goal

abbrev pub invariant-loop-rest : goal.invariant-loop-rest
invariant-loop-rest g l = record {
  said : IsTrue g.W.Outside.tells_output → (done : List ℕ) × (l.text ≡ done ++ l.rest) × ((g.W.Disk.world l.out).beside.said ≡ (g.W.Disk.world l.fn.out).beside.said ++ done);
  moves : SayMoves (g.W.Disk.world l.fn.out) (g.W.Disk.world l.out);
}

abbrev pub decreases-loop-rest : goal.decreases-loop-rest
decreases-loop-rest g l = length l.rest
