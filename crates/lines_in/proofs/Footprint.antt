-- Where a run writes.
use Rattle.std.proofs.Common.{◌≡◌, ℕ, ap, subst, sym}
use Rattle.disk_trait.specs.World.{Image, Passes, Same, Seen, Torn, World, WriteMoves}
use Rattle.disk_trait.proofs.Images.{torn_same, torn_twice}
use Rattle.disk_trait.proofs.Moments.{passes_none, passes_then, same_is_torn}
use Rattle.lines_in.specs.Causes.{WritesWithin}
use Rattle.outside.specs.Streams.{SayMoves, TakeMoves}

-- nothing is written
pub within_still : (n : ℕ) (a b : World) → b.seen.held ≡ a.seen.held → Passes Same a b → WritesWithin n a b
within_still n a b same time = record {
  held = subst (λ (i : Image). Torn 0 n a.seen.held i) (sym same) (torn_same a.seen.held 0 n);
  time = same_is_torn 0 n a b time;
}

pub within_none : (n : ℕ) (w : World) → WritesWithin n w w
within_none n w = record { held = torn_same w.seen.held 0 n; time = passes_none 0 n w }

pub within_on : (n : ℕ) (a b c : World) → WritesWithin n a b → WritesWithin n b c → WritesWithin n a c
within_on n a b c first then = record {
  held = torn_twice 0 n a.seen.held b.seen.held c.seen.held first.held then.held;
  time = passes_then 0 n a b c first.time then.time;
}

pub within_write : (n : ℕ) (a b : World) → WriteMoves 0 n a b → WritesWithin n a b
within_write n a b moves = record { held = moves.torn; time = moves.time }

pub within_say : (n : ℕ) (a b : World) → SayMoves a b → WritesWithin n a b
within_say n a b moves = within_still n a b (ap (λ (s : Seen). s.held) moves.seen) moves.time

pub within_take : (n : ℕ) (a b : World) → TakeMoves a b → WritesWithin n a b
within_take n a b moves = within_still n a b (ap (λ (s : Seen). s.held) moves.seen) moves.time

-- and then within as much
pub within_then : (n m : ℕ) (a b c : World) → m ≡ n → WritesWithin n a b → WritesWithin m b c → WritesWithin n a c
within_then n m a b c same first then = within_on n a b c first (subst (λ (k : ℕ). WritesWithin k b c) same then)
