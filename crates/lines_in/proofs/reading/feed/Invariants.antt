use Rattle.std.proofs.Common.{◌≡◌, ◌++◌, List, ℕ, length}
use Rattle.std.specs.Prelude.{IsTrue}
use Rattle.lines_in.specs.Causes.{LineMoves, WritesWithin}
use Rattle.lines_in.specs.Reading.{ReadSoFar}
use Rattle.lines_in.proofs.reading.feed.Given as goal

abbrev pub invariant-loop-line : goal.invariant-loop-line
invariant-loop-line g l = record {
  read :
      (start : g.R.LineReader.Start) (first : g.row.W.Denot) (bytes : List ℕ) → IsTrue g.W.Disk.tells → IsTrue g.W.Outside.tells_output
      → ReadSoFar g.row.MOST (λ lines. g.R.LineReader.has_read start lines l.fn.reader first l.fn.out) bytes l.fn.pending
      → (done : List ℕ) × (l.fn.piece ≡ done ++ l.rest) × ReadSoFar g.row.MOST (λ lines. g.R.LineReader.has_read start lines l.reader first l.out) (bytes ++ done) l.pending;
  reads_on : g.R.LineReader.reads_on l.reader;
  moves : LineMoves (g.W.Disk.world l.fn.out) (g.W.Disk.world l.out);
  within : WritesWithin (g.R.LineReader.reach l.fn.reader) (g.W.Disk.world l.fn.out) (g.W.Disk.world l.out);
  reach : g.R.LineReader.reach l.reader ≡ g.R.LineReader.reach l.fn.reader;
}

abbrev pub decreases-loop-line : goal.decreases-loop-line
decreases-loop-line g l = length l.rest
