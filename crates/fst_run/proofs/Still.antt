-- What takes, says and reads leave of a device.
use Rattle.std.proofs.Common.{◌≡◌, ◌∙◌, ◌≤◌, refl, ap, arith, length}
use Rattle.disk_trait.specs.World.{Image, ReadMoves, Seen, World}
use Rattle.lines_in.proofs.LastLines.{untouched_since}
use Rattle.lines_in.specs.Unserved.{Untouched}
use Rattle.map_run_model.specs.Serving.{IsOnlyRead}
use Rattle.outside.specs.Streams.{SaidByNow, SayMoves, TakeMoves}
use Rattle.outside.proofs.Crossing.{during_none, during_say, during_take, during_then, during_weaker}

-- each image that may be left now might have been left at the start
pub left_still : (a b : World) → Untouched a b → (image : Image) → b.leaves b.moment image → a.leaves a.moment image
left_still a b so_far image left = so_far.each b.moment image so_far.later (omega arith) left

pub untouched_none : (a : World) → SaidByNow a → Untouched a a
untouched_none a now =
    during_weaker (λ k image. (k ≡ length a.beside.said) × a.leaves a.moment image) (λ n image. a.leaves a.moment image) a a
    (during_none (λ (i : Image). a.leaves a.moment i) a (λ image left. left) now) (λ k image at. at.1)

pub untouched_take : (a b c : World) → Untouched a b → SaidByNow b → TakeMoves b c → Untouched a c
untouched_take a b c so_far now moves =
    during_then (λ n image. a.leaves a.moment image) a b c so_far
    (during_weaker (λ k image. (k ≡ length b.beside.said) × a.leaves a.moment image) (λ n image. a.leaves a.moment image) b c
    (during_take (λ (i : Image). a.leaves a.moment i) b c (left_still a b so_far) moves now) (λ k image at. at.1))

pub untouched_say : (a b c : World) → Untouched a b → SaidByNow b → SayMoves b c → Untouched a c
untouched_say a b c so_far now moves =
    during_then (λ n image. a.leaves a.moment image) a b c so_far
    (during_weaker (λ k image. (length b.beside.said ≤ k) × (k ≤ length c.beside.said) × b.leaves b.moment image) (λ n image. a.leaves a.moment image) b c
    (during_say b c moves now) (λ k image at. left_still a b so_far image at.2))

-- ---- a device that is at most read

pub only_none : (a : World) → SaidByNow a → IsOnlyRead a a
only_none a now = record { held = refl; reads = omega arith; writes = refl; crash = untouched_none a now }

pub only_take : (a b c : World) → IsOnlyRead a b → SaidByNow b → TakeMoves b c → IsOnlyRead a c
only_take a b c only now moves = record {
  held = ap (λ (s : Seen). s.held) moves.seen ∙ only.held;
  reads = omega (arith, ap (λ (s : Seen). s.reads) moves.seen, only.reads);
  writes = ap (λ (s : Seen). s.write_faults) moves.seen ∙ only.writes;
  crash = untouched_take a b c only.crash now moves;
}

pub only_say : (a b c : World) → IsOnlyRead a b → SaidByNow b → SayMoves b c → IsOnlyRead a c
only_say a b c only now moves = record {
  held = ap (λ (s : Seen). s.held) moves.seen ∙ only.held;
  reads = omega (arith, ap (λ (s : Seen). s.reads) moves.seen, only.reads);
  writes = ap (λ (s : Seen). s.write_faults) moves.seen ∙ only.writes;
  crash = untouched_say a b c only.crash now moves;
}

pub only_read : (a b : World) → SaidByNow a → SaidByNow b → ReadMoves 4 a b → IsOnlyRead a b
only_read a b now_a now_b moves = record {
  held = moves.held;
  reads = moves.reads;
  writes = moves.write_faults;
  crash = untouched_since a b b moves.beside now_a moves.time (untouched_none b now_b);
}
