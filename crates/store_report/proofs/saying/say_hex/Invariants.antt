use Rattle.std.proofs.Common.{◌≡◌, ◌++◌, List, ℕ, length}
use Rattle.std.specs.Prelude.{IsTrue}
use Rattle.hex.specs.Hex.{encode_lower}
use Rattle.outside.specs.Streams.{SayMoves}
use Rattle.store_report.proofs.saying.say_hex.Given as goal

-- the bytes before the rest were said
abbrev pub invariant-loop-rest : goal.invariant-loop-rest
invariant-loop-rest g l =
    (done : List ℕ) × (l.fn.bytes ≡ done ++ l.rest) × (IsTrue g.W.Outside.tells_output → (g.W.Disk.world l.out).beside.said ≡ (g.W.Disk.world l.fn.out).beside.said ++ encode_lower done)
    × SayMoves (g.W.Disk.world l.fn.out) (g.W.Disk.world l.out)

abbrev pub decreases-loop-rest : goal.decreases-loop-rest
decreases-loop-rest g l = length l.rest
